-- One block more in the changes over a store that stays.
use Rattle.std.proofs.Common.{◌≡◌, ℕ, ◌+◌, ◌≤◌, Bool, true, false, cond, List, refl, sym, ◌∙◌, ap, subst, arith}
use Rattle.std.specs.Prelude.{Option, Some, None, is_some, Result, Ok, Err, IfOk, OnOk, OnErr}
use Rattle.std.specs.FinMap as fin
use Rattle.std.specs.FinMap.{len-insert, get-insert, get-remove}
use Rattle.std.specs.Cmp.Lexicographic.{nat_list_cmp_total}
use Rattle.store_api.specs.declared.tx.Tx.{Tx}
use Rattle.store_api.specs.Content.{Id, Content, Changes, or_else, over, same_id}
use Rattle.store_api.specs.Overlay.{without}
use Rattle.store_api.specs.Holdings.{Holdings, Stays, has_id}
use Rattle.data_tree.specs.Needs.{Sets, KeepsShape}
use Rattle.store_api.specs.store_outcome.Meanings.{Meanings, Lawful}
use Rattle.store_api.specs.store_outcome.Outcome.{Outcome, idle, no_memory}
use Rattle.block_id.specs.declared.fail.Fail.TheVariants.{Memory}
use Rattle.store_api.specs.Overlay.{changed_over}
use Rattle.store_api.proofs.Rising.{same_id_is}
use Rattle.store_api.specs.Txs.{changes_in, drawn_in, store_in, tx_holdings, tx_laws, tx_meanings}
use Rattle.data_tree.proofs.Forests.{stays-same}
use Rattle.data_tree.proofs.Changes.{sets_put, there_put}

pub on_ok_of : {T E : Type 0} {P Q : Type 0} (r : Result T E) → (P → Q) → OnOk r P → OnOk r Q
on_ok_of (Ok x) f h = f h
on_ok_of (Err e) f h = tt

pub on_any : {T E : Type 0} {P : Type 0} (r : Result T E) → P → OnOk r P
on_any (Ok x) p = p
on_any (Err e) p = tt

pub if_ok_both : {T E : Type 0} {P Q R : T → Type 0} (r : Result T E) → ((x : T) → P x → Q x → R x) → IfOk r P → IfOk r Q → IfOk r R
if_ok_both (Ok x) f p q = f x p q
if_ok_both (Err e) f p q = tt

pub below_same : {B : Type 0} (H : Holdings B) (a b : Tx B) → b.store ≡ a.store → Stays H a.store b.store
below_same H a b same = subst (λ s. Stays H a.store s) (sym same) (stays-same H a.store)

pub below_then : {B : Type 0} (H : Holdings B) (a b d : Tx B) → Stays H a.store b.store → d.store ≡ b.store → Stays H a.store d.store
below_then H a b d below same = subst (λ s. Stays H a.store s) (sym same) below

pub keeps_below : {B : Type 0} (H : Holdings B) (a b : Tx B) → Stays H a.store b.store → KeepsShape (tx_holdings H) a b
keeps_below H a b below = record { told = below.told; payload = below.payload }

pub keeps_same : {B : Type 0} (H : Holdings B) (a b : Tx B) → b.store ≡ a.store → KeepsShape (tx_holdings H) a b
keeps_same H a b same = record { told = ap H.told same; payload = ap H.payload same }

pub put_sets : {B : Type 0} (H : Holdings B) (a d : Tx B) (id : Id) (change : Option (List ℕ)) → d.store ≡ a.store → d.overlay ≡ fin.insert a.overlay id change
    → Sets ((tx_holdings H).content a) ((tx_holdings H).content d) id change
put_sets H a d id change same put q =
    ap (λ s. over d.overlay (H.content s) q) same ∙ (ap (λ m. over m (H.content a.store) q) put ∙ sets_put a.overlay (H.content a.store) id change q)

-- after a call that left the changes
pub there_left : {B : Type 0} (H : Holdings B) (a d : Tx B) → d.store ≡ a.store → d.overlay ≡ a.overlay → (q : Id) → is_some ((tx_holdings H).content a q) ≡ true → is_some ((tx_holdings H).content d q) ≡ true
there_left H a d same kept q h = subst (λ s. is_some (over d.overlay (H.content s) q) ≡ true) (sym same) (subst (λ m. is_some (over m (H.content a.store) q) ≡ true) (sym kept) h)

pub there_then : {B T E : Type 0} (H : Holdings B) (a d : Tx B) (id : Id) (text : List ℕ) (r : Result T E) → d.store ≡ a.store → OnOk r (d.overlay ≡ fin.insert a.overlay id (Some text)) → OnErr r (d.overlay ≡ a.overlay)
    → (q : Id) → is_some ((tx_holdings H).content a q) ≡ true → is_some ((tx_holdings H).content d q) ≡ true
there_then H a d id text (Ok x) same put kept q h = there_put ((tx_holdings H).content a) ((tx_holdings H).content d) id text (put_sets H a d id (Some text) same put) q h
there_then H a d id text (Err e) same put kept q h = there_left H a d same kept q h

one_more : (old new : Changes) (id : Id) (change : Option (List ℕ)) → new ≡ fin.insert old id change → fin.len new ≤ fin.len old + 1
one_more old new id change is = by (fin.contains_key old id) (ap fin.len is ∙ len-insert nat_list_cmp_total old id change)
  where
    by : (b : Bool) → fin.len new ≡ cond b (fin.len old) (fin.len old + 1) → fin.len new ≤ fin.len old + 1
    by true e = omega arith
    by false e = omega arith

pub others_then : {T E : Type 0} (old new : Changes) (id : Id) (change : Option (List ℕ)) (r : Result T E) → OnOk r (new ≡ fin.insert old id change) → OnErr r (new ≡ old) → (q : Id) → same_id q id ≡ false → fin.get new q ≡ fin.get old q
others_then old new id change (Ok x) put kept q differs = ap (λ m. fin.get m q) put ∙ (get-insert nat_list_cmp_total old id change q ∙ ap (λ b. cond b (Some change) (fin.get old q)) differs)
others_then old new id change (Err e) put kept q differs = ap (λ m. fin.get m q) kept

pub few_then : {T E : Type 0} (old new : Changes) (id : Id) (change : Option (List ℕ)) (r : Result T E) → OnOk r (new ≡ fin.insert old id change) → OnErr r (new ≡ old) → fin.len new ≤ fin.len old + 1
few_then old new id change (Ok x) put kept = one_more old new id change put
few_then old new id change (Err e) put kept = omega (arith, ap fin.len kept)

-- a call that went well, and then a change of the changes alone
pub changed_ : {B : Type 0} (M : Meanings B) (H : Holdings B) {T N : Type 0} {x : T} {P : N → T → Type 0} {R : N → Type 0} (a c d : Tx B) → d.store ≡ c.store → d.seed ≡ c.seed → (tx_meanings M H).intact d → Outcome (tx_meanings M H) N a c (Ok x) P → ((n : N) → P n x → R n)
    → Outcome (tx_meanings M H) {T = Unit {0}} N a d (Ok tt) (λ n _. R n)
changed_ M H a c d same seeded intact o into = changed_over store_in changes_in drawn_in M H a c d same seeded intact o into

-- memory was wanting after a call that went well and a change of the changes alone, or after such a change alone
pub memory_after : {B : Type 0} (M : Meanings B) (H : Holdings B) {T U N : Type 0} {x : T} {P : N → T → Type 0} {Q : N → U → Type 0} (a c d : Tx B) → d.store ≡ c.store → d.seed ≡ c.seed → (tx_meanings M H).intact d → Outcome (tx_meanings M H) N a c (Ok x) P → Outcome (tx_meanings M H) {T = U} N a d (Err Memory) Q
memory_after M H a c d same seeded intact o = no_memory (changed_ M H {R = λ n. Unit {0}} a c d same seeded intact o (λ n p. tt))

pub memory_first : {B : Type 0} (M : Meanings B) (H : Holdings B) {U N : Type 0} {Q : N → U → Type 0} → Lawful M → (a d : Tx B) → (tx_meanings M H).intact a → d.store ≡ a.store → d.seed ≡ a.seed → (tx_meanings M H).intact d → Outcome (tx_meanings M H) {T = U} N a d (Err Memory) Q
memory_first M H laws a d before same seeded intact = memory_after M H a a d same seeded intact (idle (tx_laws M H laws) {T = Unit {0}} {P = λ n _. Unit {0}} a tt before (λ n. tt))

pub unforged_before : {S : Type 0} {M : Meanings S} (laws : Lawful M) (a b c : S) → M.loaded b c → M.forgeries c ≤ M.forgeries a → M.forgeries b ≤ M.forgeries a
unforged_before {M = M} laws a b c loaded few = let grown : M.forgeries b ≤ M.forgeries c = laws.forgeries_grow b c loaded in omega arith

pub unforged_on : {B : Type 0} (M : Meanings B) (a b c : Tx B) → c.store ≡ b.store → M.forgeries c.store ≤ M.forgeries a.store → M.forgeries b.store ≤ M.forgeries a.store
unforged_on M a b c same few = subst (λ s. M.forgeries s ≤ M.forgeries a.store) same few

-- an id that has a block isn't one that has none
pub differs : {T : Type 0} (o : Option T) (b : Bool) → (b ≡ true → o ≡ None) → is_some o ≡ true → b ≡ false
differs o false none there = refl
differs o true none there = let bad : false ≡ true = sym (ap is_some (none refl)) ∙ there in absurd (cc)

pub not_new : (A : Content) (id q : Id) → A id ≡ None → is_some (A q) ≡ true → same_id q id ≡ false
not_new A id q none there = differs (A q) (same_id q id) (λ same. subst (λ x. A x ≡ None) (sym (same_id_is q id same)) none) there

-- what was changed before blocks were put under new ids
pub kept_put : {B : Type 0} (H : Holdings B) (a b c : Tx B) → ((q : Id) → is_some ((tx_holdings H).content a q) ≡ true → is_some ((tx_holdings H).content b q) ≡ true) → ((q : Id) → is_some ((tx_holdings H).content a q) ≡ true → fin.get b.overlay q ≡ fin.get a.overlay q)
    → ((q : Id) → is_some ((tx_holdings H).content b q) ≡ true → fin.get c.overlay q ≡ fin.get b.overlay q) → (q : Id) → is_some ((tx_holdings H).content a q) ≡ true → fin.get c.overlay q ≡ fin.get a.overlay q
kept_put H a b c there one two q h = two q (there q h) ∙ one q h

same_there : (o p : Option (Option (List ℕ))) (x y : Option (List ℕ)) → o ≡ p → is_some x ≡ is_some y → is_some (or_else o x) ≡ true → is_some (or_else p y) ≡ true
same_there o None x y e f h = sym f ∙ (sym (ap (λ k. is_some (or_else k x)) e) ∙ h)
same_there o (Some change) x y e f h = sym (ap (λ k. is_some (or_else k x)) e) ∙ h

-- a block that is there and wasn't changed was there before
pub was_there : {B : Type 0} (H : Holdings B) (b c : Tx B) → Stays H b.store c.store → (q : Id) → fin.get c.overlay q ≡ fin.get b.overlay q → is_some ((tx_holdings H).content c q) ≡ true → is_some ((tx_holdings H).content b q) ≡ true
was_there H b c below q same h = same_there (fin.get c.overlay q) (fin.get b.overlay q) (H.content c.store q) (H.content b.store q) same (below.ids q) h

-- what is still there after two steps that only drop blocks
pub kept_drop : {B : Type 0} (H : Holdings B) (a b c : Tx B) → Stays H b.store c.store → ((q : Id) → is_some ((tx_holdings H).content b q) ≡ true → fin.get b.overlay q ≡ fin.get a.overlay q)
    → ((q : Id) → is_some ((tx_holdings H).content c q) ≡ true → fin.get c.overlay q ≡ fin.get b.overlay q) → (q : Id) → is_some ((tx_holdings H).content c q) ≡ true → fin.get c.overlay q ≡ fin.get a.overlay q
kept_drop H a b c below one two q h = two q h ∙ one q (was_there H b c below q (two q h) h)

pub kept_remove : {B T E : Type 0} (H : Holdings B) (a d : Tx B) (used : List Id) (id : Id) (r : Result T E) → OnOk r (Sets ((tx_holdings H).content a) ((tx_holdings H).content d) id None) → OnOk r (d.overlay ≡ without used a.overlay id) → OnErr r (d.overlay ≡ a.overlay)
    → (q : Id) → is_some ((tx_holdings H).content d q) ≡ true → fin.get d.overlay q ≡ fin.get a.overlay q
kept_remove H a d used id (Err e) sets gone kept q there = ap (λ m. fin.get m q) kept
kept_remove H a d used id (Ok x) sets gone kept q there =
    let other : same_id q id ≡ false = differs ((tx_holdings H).content d q) (same_id q id) (λ same. sets q ∙ ap (λ b. cond b None ((tx_holdings H).content a q)) same) there in
    ap (λ m. fin.get m q) gone ∙ by (has_id used id) other
  where
    by : (b : Bool) → same_id q id ≡ false → fin.get (cond b (fin.insert a.overlay id None) (fin.remove a.overlay id)) q ≡ fin.get a.overlay q
    by true other = get-insert nat_list_cmp_total a.overlay id None q ∙ ap (λ b. cond b (Some None) (fin.get a.overlay q)) other
    by false other = get-remove nat_list_cmp_total a.overlay id q ∙ ap (λ b. cond b None (fin.get a.overlay q)) other
