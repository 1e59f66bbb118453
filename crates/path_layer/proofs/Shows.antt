-- Calls over blobs as calls over blocks, the tree that equal contents show, and the one that one leaf shows.
use Rattle.std.proofs.Common.{◌≡◌, ℕ, ◌≤◌, List, cond, length, sym, ◌∙◌, ap, subst}
use Rattle.std.specs.Prelude.{Some, None, Result, IfOk, Ok, Err}
use Rattle.std.specs.FinMap.{get, insert, empty, get-insert, get-empty}
use Rattle.std.specs.Cmp.Lexicographic.{nat_list_cmp_total}
use Rattle.block_id.specs.declared.fail.Fail.{Fail}
use Rattle.path_contents.specs.store_outcome.Meanings.{Meanings}
use Rattle.path_contents.specs.store_outcome.Outcome.{Outcome, sounded_}
use Rattle.blob_store.specs.store_api.Content.{Id, Content, SameContent, Changes, same_id}
use Rattle.blob_store.specs.store_api.Holdings.{Holdings, Steady}
use Rattle.blob_store.specs.data_nodes.Layout.{leaf, IsNode, room}
use Rattle.blob_store.specs.data_tree.Stored.{StoresBlobs}
use Rattle.blob_store.proofs.data_tree_lemmas.Ids.{same_self}
use Rattle.blob_store.specs.blob_api.BlobMap.{id_cmp}
use Rattle.blob_store.specs.Meanings.{meanings_by, holdings_by}
use Rattle.blob_store.proofs.Laws.{stores_leaf, stores_same}
use Rattle.fs_model.specs.declared.command.Command.{Command}
use Rattle.fs_model.specs.declared.reply.Reply.{Reply}
use Rattle.fs_model.specs.Instant.{Instant}
use Rattle.fs_model.specs.Step.{step}
use Rattle.fs_model.specs.Tree.{Tree, empty_tree}
use Rattle.path_contents.specs.path_walks.Shows.{ShowsBy}
use Rattle.path_contents.specs.path_walks.Showing.{BlobsShow as NeedsTree, Performed}
use Rattle.path_layer.specs.Performing.{Shown, Steps}
use Rattle.path_layer.specs.Showing.{ShowsFiles}

-- a call over a store that holds another one, as a call over that
pub unlifted : {A B : Type 0} (f : A → B) {M : Meanings B} {T N : Type 0} {P : N → T → Type 0} {r : Result T Fail} (a b : A) → Outcome (meanings_by f M) N a b r P → Outcome M N (f a) (f b) r P
unlifted f a b o = record { intact = o.intact.0; loaded = o.loaded; sound = o.sound; met = o.met; fault = o.fault; quiet = o.quiet; noticed = o.noticed; value = o.value; structure = o.structure }

module _ {S : Type 0} (M : Meanings S) (H : Holdings S) (steady : Steady M H) {A : Type 0} (f : A → S) (g : S → Changes) (a b : A) (root : List ℕ) where
  abbrev needs : M.sound (f a) → Shown (ShowsFiles (H.payload (f a)) root) (H.content (f a)) → NeedsTree (holdings_by f g H) a root
  needs s n = record { map = n.shown.map; stands = (steady.sound_told (f a) s, n.shown.stores); tree = n.tree; ids = n.shown.shows.0; shows = n.shown.shows.1 }

  steps : (now : Instant) (tree : Tree) (command : Command) (reply : Reply) → M.loaded (f a) (f b) → Performed (holdings_by f g H) b root (step tree now command) reply
      → Steps (ShowsFiles (H.payload (f a)) root) now tree command (H.content (f b)) reply
  steps now tree command reply loaded p = record {
    next = (step tree now command).tree;
    stepped = ap (λ r. record { reply = r; tree = (step tree now command).tree }) (sym p.told);
    shown = record {
      map = p.map;
      stores = subst (λ payload. StoresBlobs payload (H.content (f b)) (get p.map)) (steady.loaded_payload (f a) (f b) loaded) p.stands.1;
      shows = (p.ids, p.shows);
    };
  }

  -- a command on blobs that blocks store, in the terms of the blocks
  pub by_blocks : (now : Instant) (command : Command) {r : Result Reply Fail}
      → Outcome (meanings_by f M) (NeedsTree (holdings_by f g H) a root) a b r (λ n reply. Performed (holdings_by f g H) b root (step n.tree now command) reply)
      → Outcome M (Shown (ShowsFiles (H.payload (f a)) root) (H.content (f a))) (f a) (f b) r (λ n reply. Steps (ShowsFiles (H.payload (f a)) root) now n.tree command (H.content (f b)) reply)
  by_blocks now command o = sounded_ needs (unlifted f a b o) (λ s n reply p. steps now n.tree command reply o.loaded p)

-- contents with the same payloads show the same tree
pub files_same : (payload : ℕ) (root : List ℕ) (old new : Content) (tree : Tree) → SameContent old new → ShowsFiles payload root old tree → ShowsFiles payload root new tree
files_same payload root old new tree same s = record { map = s.map; stores = stores_same payload old new (get s.map) same s.stores; shows = s.shows }

-- one leaf that holds the one blob of an empty directory shows the empty tree
pub leaf_shows : (payload : ℕ) (root : Id) (content : Content) (text w : List ℕ) → IsNode text (leaf w) → length text ≡ payload → ShowsBy (insert empty root w) root empty_tree (λ p. root)
    → ((id : Id) → content id ≡ cond (same_id id root) (Some text) None) → ShowsFiles payload root content empty_tree
leaf_shows payload root content text w is sized shows alone = record {
  map = insert empty root w;
  stores = stores_leaf payload content (get (insert empty root w)) root text w is sized (subst (λ n. length w ≤ room n) sized is.fits)
      (alone root ∙ ap (λ b. cond b (Some text) None) (same_self root))
      (λ q other. alone q ∙ ap (λ b. cond b (Some text) None) other)
      (get-insert nat_list_cmp_total empty root w root ∙ ap (λ b. cond b (Some w) (get {R = id_cmp} empty root)) (same_self root))
      (λ q other. get-insert nat_list_cmp_total empty root w q ∙ ap (λ b. cond b (Some w) (get {R = id_cmp} empty q)) other ∙ get-empty id_cmp q);
  shows = (λ p. root, shows);
}

pub both_ok : {T E : Type 0} (r : Result T E) (P Q R : T → Type 0) → ((x : T) → P x → Q x → R x) → IfOk r P → IfOk r Q → IfOk r R
both_ok (Ok x) P Q R f p q = f x p q
both_ok (Err e) P Q R f p q = tt
