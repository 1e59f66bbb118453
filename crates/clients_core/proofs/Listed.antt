-- What a list of others' versions notes, and that the entries of a map can stand in a record.
use Rattle.std.proofs.Common.{◌≡◌, ◌≢◌, ℕ, suc, ◌<◌, ◌^◌, Bool, true, false, cond, List, [], ◌∷◌, map, length, refl, sym, ap, subst, ◌∙◌, arith, T}
use Rattle.std.specs.List.{AllByRecursion}
use Rattle.std.specs.declared.option.Option.{Option}
use Rattle.std.specs.declared.option.Option.TheVariants.{None, Some}
use Rattle.std.specs.FinMap as fin
use Rattle.std.specs.FinMap.{entries_sorted, get-entries, get-from_entries, get-empty}
use Rattle.std.specs.FinMap.Entries.{find, is_sorted, below_all}
use Rattle.std.specs.Ordering.{eq_by_cmp, is_eq, is_lt}
use Rattle.std.specs.Cmp.{tied_itself}
use Rattle.std.proofs.lemmas.List.{length-map}
use Rattle.block_id.proofs.Conditions.{true_of, left, right}
use Rattle.clients_core.specs.Listed.{listed_entry, listed_in, RiseBy, IsInRange, FitsOther, FitsOthers, HasNoOwn}
use Rattle.clients_core.specs.Others.{Key, key_cmp, OtherVersions, plain_entry}
use Rattle.std.specs.Prelude.{All, IfOk}
use Rattle.std.specs.Global.{Vec}
use Rattle.std.specs.declared.result.Result.{Result}
use Rattle.std.specs.declared.result.Result.TheVariants.{Ok, Err}
use Rattle.block_id.specs.declared.fail.Memory.{Memory}
use Rattle.local_state.specs.declared.triple.Triple.{Triple}
use Rattle.clients_core.specs.declared.others.Author.{Author}
use Rattle.clients_core.specs.Taking.{Took}
use Rattle.clients_core.specs.Versions.{Version, version_of}
use Rattle.clients_core.specs.declared.seen.Seen.{Seen}
use Rattle.clients_core.proofs.Keys.{key_total, keys_tied, get_apart}

none_some : {A : Type 0} {x : A} → None ≡ Some x → ⊥
none_some e = cc

some_none : {A : Type 0} {x : A} → Some x ≡ None → ⊥
some_none e = cc

-- ---- no version of the own client

abbrev NoneOf : ℕ → List (Key × ℕ) → Type 0
NoneOf own es = (id : List ℕ) → find key_cmp (id, own) es ≡ None

none_by : (b : Bool) (x : ℕ) (rest : Option ℕ) → cond b (Some x) rest ≡ None → rest ≡ None
none_by true x rest e = absurd (some_none e)
none_by false x rest e = e

foreign_first : (own : ℕ) (e : Key × ℕ) (es : List (Key × ℕ)) → NoneOf own (e ∷ es) → e.0.1 ≢ own
foreign_first own e es none same =
    let found : find key_cmp e.0 (e ∷ es) ≡ Some e.1 = ap (λ r. cond (is_eq r) (Some e.1) (find key_cmp e.0 es)) (tied_itself key_total e.0) in
    some_none (sym found ∙ ap (λ (n : ℕ). find key_cmp (e.0.0, n) (e ∷ es)) same ∙ none e.0.0)

none_rest : (own : ℕ) (e : Key × ℕ) (es : List (Key × ℕ)) → NoneOf own (e ∷ es) → NoneOf own es
none_rest own e es none id = none_by (eq_by_cmp key_cmp (id, own) e.0) e.1 (find key_cmp (id, own) es) (none id)

not_tied : (own : ℕ) (id : List ℕ) (v : Version) → v.client ≢ own → eq_by_cmp key_cmp (id, own) (v.id, v.client) ≡ false
not_tied own id v other =
    elim (eq_by_cmp key_cmp (id, own) (v.id, v.client)) as (λ b. eq_by_cmp key_cmp (id, own) (v.id, v.client) ≡ b → b ≡ false) [
      | true ↦ λ e. absurd (other (ap (λ (k : Key). k.1) (sym (keys_tied (id, own) (v.id, v.client) e))))
      | false ↦ λ e. refl
    ] refl

none_own : (own : ℕ) (vs : List Version) → AllByRecursion (FitsOther own) vs → NoneOf own (map listed_entry vs)
none_own own [] each id = refl
none_own own (v ∷ vs) each id =
    ap (λ b. cond b (Some v.version) (find key_cmp (id, own) (map listed_entry vs))) (not_tied own id v each.0.foreign) ∙ none_own own vs each.1 id

pub listed_no_own : (own : ℕ) (vs : List Version) (others : OtherVersions) → others ≡ listed_in vs → FitsOthers own vs → HasNoOwn own others
listed_no_own own vs others is fits id = ap (λ (m : OtherVersions). fin.get m (id, own)) is ∙ get-from_entries key_total (map listed_entry vs) (id, own) ∙ none_own own vs fits.each id

pub empty_no_own : (own : ℕ) (others : OtherVersions) → others ≡ fin.empty → HasNoOwn own others
empty_no_own own others is id = ap (λ (m : OtherVersions). fin.get m (id, own)) is ∙ get-empty key_cmp (id, own)

-- what is taken leaves it so
pub took_no_own : (old new : Seen) (t : Version) (answer : Option ℕ) → Took old new t answer → HasNoOwn old.own old.others → HasNoOwn new.own new.others
took_no_own old new t None took none id = ap (λ (m : OtherVersions). fin.get m (id, new.own)) took.1.others ∙ ap (λ (n : ℕ). fin.get old.others (id, n)) took.1.own ∙ none id
took_no_own old new t (Some version) took none id =
    ap (λ (m : OtherVersions). fin.get m (id, new.own)) took.1.others
    ∙ ap (λ (n : ℕ). fin.get (fin.insert old.others (t.id, t.client) t.version) (id, n)) took.1.own
    ∙ get_apart old.others (t.id, t.client) (id, old.own) t.version (λ same. took.0 (ap (λ (k : Key). k.1) (sym same)))
    ∙ none id

-- ---- the order

rises_from : (v : Version) (vs : List Version) → T (below_all key_cmp (v.id, v.client) (map listed_entry vs)) → T (is_sorted key_cmp (map listed_entry vs)) → RiseBy (Some v) vs
rises_from v [] below sorted = tt
rises_from v (w ∷ ws) below sorted = (
  true_of _ (left (is_lt (key_cmp (v.id, v.client) (w.id, w.client))) _ below),
  rises_from w ws (left (below_all key_cmp (w.id, w.client) (map listed_entry ws)) _ sorted) (right (below_all key_cmp (w.id, w.client) (map listed_entry ws)) _ sorted),
)

rises : (vs : List Version) → T (is_sorted key_cmp (map listed_entry vs)) → RiseBy None vs
rises [] sorted = tt
rises (v ∷ vs) sorted = (refl, rises_from v vs (left (below_all key_cmp (v.id, v.client) (map listed_entry vs)) _ sorted) (right (below_all key_cmp (v.id, v.client) (map listed_entry vs)) _ sorted))

-- ---- a map's entries

each_fits : (own : ℕ) (vs : List Version) → AllByRecursion IsInRange vs → NoneOf own (map listed_entry vs) → AllByRecursion (FitsOther own) vs
each_fits own [] ranges none = tt
each_fits own (v ∷ vs) ranges none = (
  record { range = ranges.0; foreign = foreign_first own (listed_entry v) (map listed_entry vs) none },
  each_fits own vs ranges.1 (none_rest own (listed_entry v) (map listed_entry vs) none),
)

pub entries_fit : (others : OtherVersions) (vs : List Version) → map listed_entry vs ≡ fin.entries others → AllByRecursion IsInRange vs → length vs < 2 ^ 64 → (own : ℕ) → HasNoOwn own others → FitsOthers own vs
entries_fit others vs is ranges few own none = record {
  each = each_fits own vs ranges (λ id. ap (find key_cmp (id, own)) is ∙ sym (get-entries others (id, own)) ∙ none id);
  order = rises vs (subst (λ (es : List (Key × ℕ)). T (is_sorted key_cmp es)) (sym is) (entries_sorted others));
  count = few;
}

ranges_of : (ts : List Triple) → All (λ t. IsInRange (version_of t)) ts → AllByRecursion IsInRange (map version_of ts)
ranges_of [] ranges = tt
ranges_of (t ∷ ts) ranges = (ranges 0 t (omega arith), ranges_of ts (λ k d lt. ranges (suc k) d (omega (arith, lt))))

pub listed_fits : (others : OtherVersions) (entries : List (Author × ℕ)) (r : Result (Vec Triple) Memory) → map plain_entry entries ≡ fin.entries others → length entries < 2 ^ 64
    → IfOk r (λ vs. map listed_entry (map version_of vs.items) ≡ map plain_entry entries) → IfOk r (λ vs. All (λ t. IsInRange (version_of t)) vs.items)
    → IfOk r (λ vs. (own : ℕ) → HasNoOwn own others → FitsOthers own (map version_of vs.items))
listed_fits others entries (Ok vs) are few same ranges =
    let long : length (map version_of vs.items) ≡ length entries =
    sym (length-map (map version_of vs.items) listed_entry) ∙ ap length same ∙ length-map entries plain_entry in
    entries_fit others (map version_of vs.items) (same ∙ are) (ranges_of vs.items ranges) (omega (arith, long, few))
listed_fits others entries (Err e) are few same ranges = tt
