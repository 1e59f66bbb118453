-- Such a host answers a copy by the laws.
use Rattle.std.proofs.Common.{◌≡◌, ℕ, List, [], ◌∷◌, ◌++◌, refl, sym, ap, ◌∙◌, subst, append_assoc, append-nil}
use Rattle.std.specs.declared.option.Option.{Option}
use Rattle.fs_model.specs.Instant.{Instant}
use Rattle.session_lines.specs.answers.declared.answer.Answer.{Answer}
use Rattle.session_lines.specs.answers.Hosts.{Hosting}
use Rattle.session_lines.specs.answers.RanLaws.{ran_append, at_append}
use Rattle.session_lines.specs.answers.Sessions.{Exchange}
use Rattle.copy_laws.specs.Questions.{Question, LawfulAsker}
use Rattle.copy_sessions.specs.Fitting.{Fits, kept_by, kept_after, WentBy}
use Rattle.copy_sessions.specs.Hosted.{host_asking}

fits_append : (qs rs : List Question) (es fs : List Exchange) → Fits qs es → Fits rs fs → Fits (qs ++ rs) (fs ++ es)
fits_append qs rs es [] f g = subst (λ z. Fits z es) (sym (ap (λ z. qs ++ z) g ∙ append-nil qs)) f
fits_append qs rs es (e ∷ fs) f g = (
  qs ++ g.0,
  g.1,
  ap (λ z. qs ++ z) g.2 ∙ sym (append_assoc qs g.0 (g.1 ∷ [])),
  g.3,
  fits_append qs g.0 es fs f g.4,
)

kept_append : (before : Option Answer) (es fs : List Exchange) → kept_after before (fs ++ es) ≡ kept_after (kept_after before es) fs
kept_append before es [] = refl
kept_append before es (f ∷ fs) = ap (kept_by f.answer) (kept_append before es fs)

went_then : {H : Type 0} (M : Hosting H) (now : Instant) (a b c : H) (before mid after : Option Answer) (qs rs : List Question) → WentBy M now a before qs b mid → WentBy M now b mid rs c after
    → WentBy M now a before (qs ++ rs) c after
went_then M now a b c before mid after qs rs v w = record {
  es = w.es ++ v.es;
  ran = ran_append M a b c v.es w.es v.ran w.ran;
  moments = at_append now v.es w.es v.moments w.moments;
  fits = fits_append qs rs v.es w.es v.fits w.fits;
  kept = w.kept ∙ (ap (λ z. kept_after z w.es) v.kept ∙ sym (kept_append before v.es w.es));
}

pub host_lawful : {A : Type 0} {H : Type 0} (M : Hosting H) (host : A → H) (moment : A → Instant) (kept : A → Option Answer) (stops : A → ℕ) → LawfulAsker (host_asking M host moment kept stops)
host_lawful M host moment kept stops = record {
  none = λ a. (refl, refl, record { es = []; ran = refl; moments = tt; fits = refl; kept = refl });
  onward = λ a b c qs rs v w. (
    w.0 ∙ v.0,
    w.1 ∙ v.1,
    went_then M (moment a) (host a) (host b) (host c) (kept a) (kept b) (kept c) qs rs v.2 (subst (λ z. WentBy M z (host b) (kept b) rs (host c) (kept c)) v.0 w.2),
  );
  one_tree = λ a t u s z. absurd s;
}
