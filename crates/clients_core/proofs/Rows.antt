-- Clients in a row, one of which changes, or with one more.
use Rattle.std.proofs.Common.{◌≡◌, ◌≢◌, ◌⊎◌, ℕ, zero, suc, ◌+◌, ◌-◌, ◌<◌, ◌≤◌, Bool, true, List, [], ◌∷◌, ◌++◌, length, map, take, get_or, add-one, take-suc, take_all, take_at, drop, Result, refl, sym, ap, subst, ◌∙◌, inl, inr, arith}
use Rattle.std.specs.Prelude.{All, if◌then◌else◌, not, slice_get, slice_set, IfOk, IfSome}
use Rattle.std.specs.declared.option.Option.{Option}
use Rattle.std.specs.declared.option.Option.TheVariants.{None, Some}
use Rattle.std.specs.FinMap as fin
use Rattle.std.specs.FinMap.{get-empty}
use Rattle.std.specs.Cmp.Lexicographic.{slice_cmp}
use Rattle.std.specs.Ordering.{nat_cmp}
use Rattle.std.proofs.lemmas.Bool.{cases_eq, ne_eqb}
use Rattle.std.proofs.lemmas.Result.{IfOk-weaker}
use Rattle.std.proofs.lemmas.List.{map-append}
use Rattle.block_id.specs.declared.fail.Memory.{Memory}
use Rattle.local_state.specs.declared.life.Life.{Life}
use Rattle.local_state.specs.Known.{Lives}
use Rattle.clients_core.specs.declared.seen.Seen.{Seen}
use Rattle.clients_core.specs.declared.worlds.WorldStep.{WorldStep}
use Rattle.clients_core.specs.declared.worlds.WorldStep.TheVariants.{Seal}
use Rattle.clients_core.specs.Clients.{IsAlive, IsClient, AreClients, WasSealed, WasOffered, Stepped}
use Rattle.clients_core.specs.Standing.{Stands}
use Rattle.clients_core.specs.Versions.{Version}
use Rattle.clients_core.specs.Worlds.{Lists, Step, seal, offer, client_in, answer_to, answers_of, list_after_step, lists_after, list_sealed, list_offered, is_spent, is_taken, no_lists, step_of}
use Rattle.clients_core.proofs.WorldLists.{own_list}

none_some : {A : Type 0} {x : A} → None ≡ Some x → ⊥
none_some e = cc

some_is : {A : Type 0} {x y : A} → Some x ≡ Some y → x ≡ y
some_is e = cc

get_set_same : (xs : List Seen) (k : ℕ) (old new : Seen) → slice_get xs k ≡ Some old → slice_get (slice_set xs k new) k ≡ Some new
get_set_same [] k old new e = absurd (none_some e)
get_set_same (x ∷ xs) zero old new e = refl
get_set_same (x ∷ xs) (suc k) old new e = get_set_same xs k old new e

get_set_apart : (xs : List Seen) (k j : ℕ) (new : Seen) → j ≢ k → slice_get (slice_set xs k new) j ≡ slice_get xs j
get_set_apart [] k j new ne = refl
get_set_apart (x ∷ xs) zero zero new ne = absurd (ne refl)
get_set_apart (x ∷ xs) zero (suc j) new ne = refl
get_set_apart (x ∷ xs) (suc k) zero new ne = refl
get_set_apart (x ∷ xs) (suc k) (suc j) new ne = get_set_apart xs k j new (λ e. ne (ap suc e))

append_get : (xs : List Seen) (s x : Seen) (k : ℕ) → slice_get (xs ++ s ∷ []) k ≡ Some x → (slice_get xs k ≡ Some x) ⊎ ((k ≡ length xs) × (s ≡ x))
append_get [] s x zero e = inr (refl, some_is e)
append_get [] s x (suc k) e = absurd (none_some e)
append_get (y ∷ ys) s x zero e = inl e
append_get (y ∷ ys) s x (suc k) e = elim (append_get ys s x k e) [
  | inl old ↦ inl old
  | inr new ↦ inr (ap suc new.0, new.1)
]

-- ---- one that has seen nothing

pub new_alive : (s : Seen) → s.known.lives ≡ fin.empty → IsAlive s
new_alive s e id = subst (λ (m : Lives). IfSome (fin.get m id) (λ life. life.live ≡ true)) (sym e) (subst (λ (o : Option Life). IfSome o (λ life. life.live ≡ true)) (sym (get-empty (slice_cmp nat_cmp) id)) tt)

pub alive_one : (s : Seen) → IsAlive s → All IsAlive (s ∷ [])
alive_one s alive zero d lt = alive
alive_one s alive (suc k) d lt = absurd (omega (arith, lt))

pub none_yet : AreClients [] no_lists
none_yet k s e = absurd (none_some e)

pub one_more : (xs : List Seen) (s : Seen) → AreClients xs no_lists → s.own ≡ length xs + 1 → Stands s [] → AreClients (xs ++ s ∷ []) no_lists
one_more xs s are own stands k x e = elim (append_get xs s x k e) [
  | inl old ↦ are k x old
  | inr new ↦ subst (λ (y : Seen). IsClient y (k + 1) []) new.1 (record { own = own ∙ ap (λ (n : ℕ). n + 1) (sym new.0); stands = stands })
]

-- ---- one step

other_list : (hs : Lists) (step : Step) (client : ℕ) → client ≢ client_in step → lists_after hs step client ≡ hs client
other_list hs step client ne = ap (λ (b : Bool). if b then list_after_step (hs client) step else hs client) (ne_eqb client (client_in step) ne)

stepped : (xs : List Seen) (hs : Lists) (step : Step) (old new : Seen) (answer : Bool) (n : ℕ) → client_in step ≡ n + 1 → slice_get xs n ≡ Some old → AreClients xs hs
    → answer ≡ answer_to (hs (client_in step)) step → IsClient new (client_in step) (list_after_step (hs (client_in step)) step) → Stepped (slice_set xs n new) hs step answer
stepped xs hs step old new answer n number get are told made = record {
  told = told;
  clients = λ k s e. elim (cases_eq k n) [
    | inl same ↦
        let is : new ≡ s = some_is (sym (get_set_same xs n old new get) ∙ ap (slice_get (slice_set xs n new)) (sym same) ∙ e) in
        subst (λ (x : Seen). IsClient x (k + 1) (lists_after hs step (k + 1))) is
        (subst (λ (m : ℕ). IsClient new m (lists_after hs step m)) (number ∙ ap (λ (m : ℕ). m + 1) (sym same))
        (subst (λ (h : List Version). IsClient new (client_in step) h) (sym (own_list hs step)) made))
    | inr apart ↦
        let there : slice_get xs k ≡ Some s = sym (get_set_apart xs n k new apart) ∙ e in
        subst (λ (h : List Version). IsClient s (k + 1) h) (sym (other_list hs step (k + 1) (λ same. apart (let all = same ∙ number in omega (arith, all))))) (are k s there)
  ];
}

the_client : (xs : List Seen) (hs : Lists) (client : ℕ) (old : Seen) → 0 < client → slice_get xs (client - 1) ≡ Some old → AreClients xs hs → IsClient old client (hs client)
the_client xs hs client old positive get are =
    let same : client - 1 + 1 ≡ client = omega (arith, positive) in
    subst (λ (m : ℕ). IsClient old m (hs m)) same (are (client - 1) old get)

pub make_seal : (xs : List Seen) (client : ℕ) (id : List ℕ) (old new : Seen) (r : Result Bool Memory) → 0 < client → slice_get xs (client - 1) ≡ Some old → new.own ≡ old.own
    → IfOk r (λ answer. (h : List Version) → Stands old h → WasSealed old new id answer h)
    → IfOk r (λ answer. (hs : Lists) → AreClients xs hs → Stepped (slice_set xs (client - 1) new) hs (seal client id) answer)
make_seal xs client id old new r positive get own =
    IfOk-weaker r (λ answer. (h : List Version) → Stands old h → WasSealed old new id answer h)
    (λ answer. (hs : Lists) → AreClients xs hs → Stepped (slice_set xs (client - 1) new) hs (seal client id) answer)
    (λ answer f hs are.
    let here = the_client xs hs client old positive get are in
    let was = f (hs client) here.stands in
    stepped xs hs (seal client id) old new answer (client - 1) (omega (arith, positive)) get are
    (subst (λ (o : ℕ). answer ≡ not (is_spent o (hs client) id)) here.own was.told)
    (record { own = own ∙ here.own; stands = subst (λ (o : ℕ). Stands new (list_sealed o (hs client) id)) here.own was.stands }))

pub make_offer : (xs : List Seen) (client : ℕ) (t : Version) (old new : Seen) (r : Result Bool Memory) → 0 < client → slice_get xs (client - 1) ≡ Some old → new.own ≡ old.own
    → IfOk r (λ answer. (h : List Version) → Stands old h → WasOffered old new t answer h)
    → IfOk r (λ answer. (hs : Lists) → AreClients xs hs → Stepped (slice_set xs (client - 1) new) hs (offer client t) answer)
make_offer xs client t old new r positive get own =
    IfOk-weaker r (λ answer. (h : List Version) → Stands old h → WasOffered old new t answer h)
    (λ answer. (hs : Lists) → AreClients xs hs → Stepped (slice_set xs (client - 1) new) hs (offer client t) answer)
    (λ answer f hs are.
    let here = the_client xs hs client old positive get are in
    let was = f (hs client) here.stands in
    stepped xs hs (offer client t) old new answer (client - 1) (omega (arith, positive)) get are
    (subst (λ (o : ℕ). answer ≡ is_taken o (hs client) t) here.own was.told)
    (record { own = own ∙ here.own; stands = subst (λ (o : ℕ). Stands new (list_offered o (hs client) t)) here.own was.stands }))

-- ---- all steps

-- the lists after these steps
abbrev pub lists_of : Lists → List Step → Lists
lists_of hs [] = hs
lists_of hs (step ∷ steps) = lists_of (lists_after hs step) steps

pub lists_of-last : (hs : Lists) (steps : List Step) (step : Step) → lists_of hs (steps ++ step ∷ []) ≡ lists_after (lists_of hs steps) step
lists_of-last hs [] step = refl
lists_of-last hs (first ∷ steps) step = lists_of-last (lists_after hs first) steps step

pub answers-last : (hs : Lists) (steps : List Step) (step : Step) → answers_of hs (steps ++ step ∷ []) ≡ answers_of hs steps ++ answer_to (lists_of hs steps (client_in step)) step ∷ []
answers-last hs [] step = refl
answers-last hs (first ∷ steps) step = ap (λ (bs : List Bool). answer_to (hs (client_in first)) first ∷ bs) (answers-last (lists_after hs first) steps step)

-- the first of the steps, as many as this
abbrev pub so_far : List WorldStep → ℕ → List Step
so_far steps i = map step_of (take i steps)

-- the one that a place past the end would give
abbrev pub any_step : WorldStep
any_step = Seal 0 (record { 0 = [] })

abbrev pub step_at : List WorldStep → ℕ → Step
step_at steps i = step_of (get_or steps i any_step)

so_far-next : (steps : List WorldStep) (i : ℕ) → i < length steps → so_far steps (i + 1) ≡ so_far steps i ++ step_at steps i ∷ []
so_far-next steps i lt =
    ap (λ k. map step_of (take k steps)) (add-one i) ∙ ap (map step_of) (take-suc steps i any_step lt) ∙ map-append step_of (take i steps) (get_or steps i any_step ∷ [])

pub more_clients : (steps : List WorldStep) (i : ℕ) (new : List Seen) (answer : Bool) → i < length steps
    → Stepped new (lists_of no_lists (so_far steps i)) (step_at steps i) answer → AreClients new (lists_of no_lists (so_far steps (i + 1)))
more_clients steps i new answer lt made =
    subst (λ (ss : List Step). AreClients new (lists_of no_lists ss)) (sym (so_far-next steps i lt))
    (subst (AreClients new) (sym (lists_of-last no_lists (so_far steps i) (step_at steps i))) made.clients)

pub more_answers : (steps : List WorldStep) (i : ℕ) (new : List Seen) (answers after : List Bool) (answer : Bool) → i < length steps
    → Stepped new (lists_of no_lists (so_far steps i)) (step_at steps i) answer → answers ≡ answers_of no_lists (so_far steps i) → after ≡ answers ++ answer ∷ []
    → after ≡ answers_of no_lists (so_far steps (i + 1))
more_answers steps i new answers after answer lt made before pushed =
    pushed ∙ (λ j. before j ++ made.told j ∷ []) ∙ sym (answers-last no_lists (so_far steps i) (step_at steps i)) ∙ ap (answers_of no_lists) (sym (so_far-next steps i lt))

pub all_answers : (steps : List WorldStep) (i : ℕ) (answers : List Bool) → length steps ≤ i → answers ≡ answers_of no_lists (so_far steps i) → answers ≡ answers_of no_lists (map step_of steps)
all_answers steps i answers past is = is ∙ ap (λ ss. answers_of no_lists (map step_of ss)) (take_all i steps past)

-- nothing was written back past the end
pub written_back : (n : ℕ) (xs ys : List Seen) → length xs ≡ n → take n (xs ++ drop (length xs) ys) ≡ xs
written_back n xs ys long = take_at xs (drop (length xs) ys) n long
