-- A structure is what its fields are, one behind another.
use Rattle.std.proofs.Common.{◌≡◌, ℕ, List, ◌++◌, length}
use Rattle.dir_entries.proofs.Bodies.{appended}
use Rattle.fuse_messages.specs.declared.structures.Times.{Times}
use Rattle.fuse_messages.specs.declared.structures.NodeAttributes.{NodeAttributes}
use Rattle.fuse_messages.specs.declared.structures.Entry.{Entry}
use Rattle.fuse_messages.specs.Layout.{u32, u64, fill, times_text, attributes_text, entry_text, row_text}

pub times_put : (b0 b1 b2 b3 b4 b5 b6 : List ℕ) (t : Times)
    → b1 ≡ b0 ++ u64 t.atime → b2 ≡ b1 ++ u64 t.mtime → b3 ≡ b2 ++ u64 t.ctime → b4 ≡ b3 ++ u32 t.atime_nanos
    → b5 ≡ b4 ++ u32 t.mtime_nanos → b6 ≡ b5 ++ u32 t.ctime_nanos
    → b6 ≡ b0 ++ times_text t
unfolding times_text
times_put b0 b1 b2 b3 b4 b5 b6 t e0 e1 e2 e3 e4 e5 =
    let s1 = appended b0 b1 b2 (u64 t.atime) (u64 t.mtime) e0 e1 in
    let s2 = appended b0 b2 b3 (u64 t.atime ++ u64 t.mtime) (u64 t.ctime) s1 e2 in
    let s3 = appended b0 b3 b4 (u64 t.atime ++ u64 t.mtime ++ u64 t.ctime) (u32 t.atime_nanos) s2 e3 in
    let s4 = appended b0 b4 b5 (u64 t.atime ++ u64 t.mtime ++ u64 t.ctime ++ u32 t.atime_nanos) (u32 t.mtime_nanos) s3 e4 in
    appended b0 b5 b6 (u64 t.atime ++ u64 t.mtime ++ u64 t.ctime ++ u32 t.atime_nanos ++ u32 t.mtime_nanos) (u32 t.ctime_nanos) s4 e5

pub attributes_put : (b0 b1 b2 b3 b4 b5 b6 b7 b8 b9 b10 b11 : List ℕ) (a : NodeAttributes)
    → b1 ≡ b0 ++ u64 a.node → b2 ≡ b1 ++ u64 a.size → b3 ≡ b2 ++ u64 a.blocks → b4 ≡ b3 ++ times_text a.times
    → b5 ≡ b4 ++ u32 a.mode → b6 ≡ b5 ++ u32 a.links → b7 ≡ b6 ++ u32 a.uid → b8 ≡ b7 ++ u32 a.gid
    → b9 ≡ b8 ++ u32 a.device → b10 ≡ b9 ++ u32 a.block_size → b11 ≡ b10 ++ u32 a.flags
    → b11 ≡ b0 ++ attributes_text a
unfolding attributes_text
attributes_put b0 b1 b2 b3 b4 b5 b6 b7 b8 b9 b10 b11 a e0 e1 e2 e3 e4 e5 e6 e7 e8 e9 e10 =
    let s1 = appended b0 b1 b2 (u64 a.node) (u64 a.size) e0 e1 in
    let s2 = appended b0 b2 b3 (u64 a.node ++ u64 a.size) (u64 a.blocks) s1 e2 in
    let s3 = appended b0 b3 b4 (u64 a.node ++ u64 a.size ++ u64 a.blocks) (times_text a.times) s2 e3 in
    let s4 = appended b0 b4 b5 (u64 a.node ++ u64 a.size ++ u64 a.blocks ++ times_text a.times) (u32 a.mode) s3 e4 in
    let s5 = appended b0 b5 b6 (u64 a.node ++ u64 a.size ++ u64 a.blocks ++ times_text a.times ++ u32 a.mode) (u32 a.links) s4 e5 in
    let s6 = appended b0 b6 b7 (u64 a.node ++ u64 a.size ++ u64 a.blocks ++ times_text a.times ++ u32 a.mode ++ u32 a.links) (u32 a.uid) s5 e6 in
    let s7 = appended b0 b7 b8 (u64 a.node ++ u64 a.size ++ u64 a.blocks ++ times_text a.times ++ u32 a.mode ++ u32 a.links ++ u32 a.uid) (u32 a.gid) s6 e7 in
    let s8 = appended b0 b8 b9 (u64 a.node ++ u64 a.size ++ u64 a.blocks ++ times_text a.times ++ u32 a.mode ++ u32 a.links ++ u32 a.uid ++ u32 a.gid) (u32 a.device) s7 e8 in
    let s9 = appended b0 b9 b10 (u64 a.node ++ u64 a.size ++ u64 a.blocks ++ times_text a.times ++ u32 a.mode ++ u32 a.links ++ u32 a.uid ++ u32 a.gid ++ u32 a.device) (u32 a.block_size) s8 e9 in
    appended b0 b10 b11 (u64 a.node ++ u64 a.size ++ u64 a.blocks ++ times_text a.times ++ u32 a.mode ++ u32 a.links ++ u32 a.uid ++ u32 a.gid ++ u32 a.device ++ u32 a.block_size) (u32 a.flags) s9 e10

pub entry_put : (b0 b1 b2 b3 b4 b5 b6 b7 : List ℕ) (e : Entry)
    → b1 ≡ b0 ++ u64 e.node → b2 ≡ b1 ++ u64 e.generation → b3 ≡ b2 ++ u64 e.entry_valid → b4 ≡ b3 ++ u64 e.attributes_valid
    → b5 ≡ b4 ++ u32 e.entry_valid_nanos → b6 ≡ b5 ++ u32 e.attributes_valid_nanos → b7 ≡ b6 ++ attributes_text e.attributes
    → b7 ≡ b0 ++ entry_text e
unfolding entry_text
entry_put b0 b1 b2 b3 b4 b5 b6 b7 e e0 e1 e2 e3 e4 e5 e6 =
    let s1 = appended b0 b1 b2 (u64 e.node) (u64 e.generation) e0 e1 in
    let s2 = appended b0 b2 b3 (u64 e.node ++ u64 e.generation) (u64 e.entry_valid) s1 e2 in
    let s3 = appended b0 b3 b4 (u64 e.node ++ u64 e.generation ++ u64 e.entry_valid) (u64 e.attributes_valid) s2 e3 in
    let s4 = appended b0 b4 b5 (u64 e.node ++ u64 e.generation ++ u64 e.entry_valid ++ u64 e.attributes_valid) (u32 e.entry_valid_nanos) s3 e4 in
    let s5 = appended b0 b5 b6 (u64 e.node ++ u64 e.generation ++ u64 e.entry_valid ++ u64 e.attributes_valid ++ u32 e.entry_valid_nanos) (u32 e.attributes_valid_nanos) s4 e5 in
    appended b0 b6 b7 (u64 e.node ++ u64 e.generation ++ u64 e.entry_valid ++ u64 e.attributes_valid ++ u32 e.entry_valid_nanos ++ u32 e.attributes_valid_nanos) (attributes_text e.attributes) s5 e6

pub row_put : (b0 b1 b2 b3 b4 b5 b6 : List ℕ) (node place kind : ℕ) (name : List ℕ)
    → b1 ≡ b0 ++ u64 node → b2 ≡ b1 ++ u64 place → b3 ≡ b2 ++ u32 (length name) → b4 ≡ b3 ++ u32 kind
    → b5 ≡ b4 ++ name → b6 ≡ b5 ++ fill (length name)
    → b6 ≡ b0 ++ row_text node place kind name
unfolding row_text
row_put b0 b1 b2 b3 b4 b5 b6 node place kind name e0 e1 e2 e3 e4 e5 =
    let s1 = appended b0 b1 b2 (u64 node) (u64 place) e0 e1 in
    let s2 = appended b0 b2 b3 (u64 node ++ u64 place) (u32 (length name)) s1 e2 in
    let s3 = appended b0 b3 b4 (u64 node ++ u64 place ++ u32 (length name)) (u32 kind) s2 e3 in
    let s4 = appended b0 b4 b5 (u64 node ++ u64 place ++ u32 (length name) ++ u32 kind) (name) s3 e4 in
    appended b0 b5 b6 (u64 node ++ u64 place ++ u32 (length name) ++ u32 kind ++ name) (fill (length name)) s4 e5
