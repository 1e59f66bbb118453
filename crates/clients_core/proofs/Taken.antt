-- What `take` and `seal` leave, from what their steps say.
use Rattle.std.proofs.Common.{◌≡◌, ◌≢◌, ℕ, ◌+◌, ◌<◌, List, ◌∷◌, refl, sym, ap, subst, ◌∙◌}
use Rattle.std.specs.Prelude.{true, false}
use Rattle.std.specs.declared.option.Option.{Option}
use Rattle.std.specs.declared.option.Option.TheVariants.{None, Some}
use Rattle.std.specs.FinMap as fin
use Rattle.std.proofs.lemmas.Bool.{eq-eqb, ne_eqb}
use Rattle.local_state.specs.declared.life.Life.{Life}
use Rattle.local_state.specs.Known.{Lives, raised_version}
use Rattle.clients_core.specs.declared.seen.Seen.{Seen}
use Rattle.clients_core.specs.declared.stale.Stale.{Stale}
use Rattle.clients_core.specs.Judging.{judge, known_in}
use Rattle.clients_core.specs.Others.{OtherVersions, other_version}
use Rattle.clients_core.specs.Standing.{Stands, StandsBy, own_version}
use Rattle.clients_core.specs.Taking.{Noted}
use Rattle.clients_core.specs.Versions.{Version, is_superseded}
use Rattle.clients_core.proofs.Judged.{own_good, other_good}
use Rattle.clients_core.proofs.Numbers.{own_kept, other_kept, stands_own, stands_sealed, stands_apart, stands_noted}
use Rattle.clients_core.proofs.Steps.{judged_when}

pub no_stale : (o : Option Stale) → ((s : Stale) → o ≡ Some s → ⊥) → o ≡ None
no_stale None f = refl
no_stale (Some s) f = absurd (f s refl)

pub raised_is : (life : Option Life) → raised_version life ≡ known_in life + 1
raised_is None = refl
raised_is (Some life) = refl

pub sealed_stands : (own : ℕ) (lives mid after : Lives) (others : OtherVersions) (h : List Version) (id : List ℕ) (version : ℕ) → mid ≡ lives → version ≡ raised_version (fin.get mid id)
    → after ≡ fin.insert mid id (record { version = version; live = true }) → StandsBy own lives others h → StandsBy own after others (own_version own id version ∷ h)
sealed_stands own lives mid after others h id version same next is s =
    let moved : after ≡ fin.insert lives id (record { version = version; live = true }) = is ∙ ap (λ (m : Lives). fin.insert m id (record { version = version; live = true })) same in
    let one_more : version ≡ known_in (fin.get lives id) + 1 = next ∙ raised_is (fin.get mid id) ∙ ap (λ (m : Lives). known_in (fin.get m id) + 1) same in
    subst (λ (m : Lives). StandsBy own m others (own_version own id version ∷ h)) (sym moved) (stands_sealed own lives others h id version (stands_apart own lives others h id s) one_more)

pub own_version_known : (seen : Seen) (t : Version) → judge seen t ≡ None → t.client ≡ seen.own → known_in (fin.get seen.known.lives t.id) ≡ t.version
own_version_known seen t good own = own_good (fin.get seen.known.lives t.id) t.version (sym (judged_when seen t true (eq-eqb t.client seen.own own)) ∙ good)

pub other_version_above : (seen : Seen) (t : Version) → judge seen t ≡ None → t.client ≢ seen.own → 0 < t.version → other_version seen.others t.id t.client < t.version
other_version_above seen t good foreign positive =
    other_good seen.own (fin.get seen.known.lives t.id) (other_version seen.others t.id t.client) t.version positive (sym (judged_when seen t false (ne_eqb t.client seen.own foreign)) ∙ good)

pub own_current : (seen : Seen) (t : Version) → judge seen t ≡ None → t.client ≡ seen.own → 0 < t.version → (h : List Version) → Stands seen h → is_superseded h t ≡ false
own_current seen t good own positive h s = own_kept seen.own seen.known.lives seen.others h t s own (own_version_known seen t good own) positive

pub own_stands_on : (seen : Seen) (t : Version) → judge seen t ≡ None → t.client ≡ seen.own → (h : List Version) → Stands seen h → Stands seen (t ∷ h)
own_stands_on seen t good own h s = stands_own seen.own seen.known.lives seen.others h t s own (own_version_known seen t good own)

pub other_current : (seen : Seen) (t : Version) → judge seen t ≡ None → t.client ≢ seen.own → 0 < t.version → (h : List Version) → Stands seen h → is_superseded h t ≡ false
other_current seen t good foreign positive h s = other_kept seen.own seen.known.lives seen.others h t s foreign (other_version_above seen t good foreign positive)

pub other_stands_on : (old new : Seen) (t : Version) (version : ℕ) → judge old t ≡ None → t.client ≢ old.own → 0 < t.version → Noted old new t version
    → (h : List Version) → Stands old h → Stands new (own_version old.own t.id version ∷ t ∷ h)
other_stands_on old new t version good foreign positive n h s =
    let after = stands_sealed old.own old.known.lives (fin.insert old.others (t.id, t.client) t.version) (t ∷ h) t.id version
    (stands_noted old.own old.known.lives old.others h t s foreign (other_version_above old t good foreign positive)) n.next in
    subst (λ (own : ℕ). StandsBy own new.known.lives new.others (own_version old.own t.id version ∷ t ∷ h)) (sym n.own)
    (subst (λ (m : Lives). StandsBy old.own m new.others (own_version old.own t.id version ∷ t ∷ h)) (sym n.lives)
    (subst (λ (o : OtherVersions). StandsBy old.own (fin.insert old.known.lives t.id (record { version = version; live = true })) o (own_version old.own t.id version ∷ t ∷ h)) (sym n.others) after))
