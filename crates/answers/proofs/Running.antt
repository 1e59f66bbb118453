-- What every host went through.
use Rattle.std.proofs.Common.{◌≡◌, ◌||◌, Bool, false, List, [], ◌∷◌, ap, ◌∙◌}
use Rattle.answers.specs.Hosts.{Hosting, LawfulHost, Ran}
use Rattle.answers.specs.Sessions.{Exchange, is_violation, violated, RefusesAfterViolation}

-- it refuses just where there was a violation
pub flags : {H : Type 0} (M : Hosting H) → LawfulHost M → (old : H) (es : List Exchange) (new : H) → Ran M old es new → M.refuses old ≡ false
    → M.refuses new ≡ violated es
flags M laws old [] new r e = ap M.refuses r ∙ e
flags M laws old (x ∷ es) new r e =
    laws.flag r.0 new x.at x.asked x.answer r.2 ∙ ap (λ (b : Bool). is_violation x.answer || b) (flags M laws old es r.0 r.1 e)

pub refusals : {H : Type 0} (M : Hosting H) → LawfulHost M → (old : H) (es : List Exchange) (new : H) → Ran M old es new → M.refuses old ≡ false
    → RefusesAfterViolation es
refusals M laws old [] new r e = tt
refusals M laws old (x ∷ es) new r e =
    (laws.refusal r.0 new x.at x.asked x.answer r.2 ∙ flags M laws old es r.0 r.1 e, refusals M laws old es r.0 r.1 e)
