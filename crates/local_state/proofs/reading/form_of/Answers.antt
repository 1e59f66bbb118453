use Rattle.std.proofs.Common.{◌≡◌, ◌-◌, Bool, true, false, List, ℕ, refl, ap, sym, ◌∙◌, arith, length-drop}
use Rattle.std.specs.Prelude.{Option, Some, None, drop, length, nat_eq, if◌then◌else◌}
use Rattle.std.specs.List.{starts_with}
use Rattle.std.proofs.lemmas.List.{take_all}
use Rattle.local_state.specs.declared.state.Form.{Form}
use Rattle.local_state.specs.declared.state.Form.TheVariants.{Older, Newer}
use Rattle.local_state.specs.Record.{magic_of}
use Rattle.local_state.proofs.reading.form_of.Goals as goal

second_of : (a b : Bool) (x y : Option (Form × List ℕ)) → a ≡ false → b ≡ true → (if a then x else (if b then y else None)) ≡ y
second_of false true x y e f = refl
second_of false false x y e f = cc
second_of true b x y e f = cc

pub returns-then-starts_with-2 : goal.returns-then-starts_with-2
returns-then-starts_with-2 c =
    let bytes = c.args.bytes.now in
    let first : starts_with nat_eq bytes (magic_of Older) ≡ false = sym c.starts_with.ensures.value ∙ c.if-starts_with.false in
    let second : starts_with nat_eq bytes (magic_of Newer) ≡ true = sym c.starts_with-2.ensures.value ∙ c.if-starts_with-2.true in
    ap (λ (r : List ℕ). Some (Newer, r)) (take_all (length bytes - 19) (drop 19 bytes) (omega (arith, length-drop 19 bytes)))
    ∙ sym (second_of (starts_with nat_eq bytes (magic_of Older)) (starts_with nat_eq bytes (magic_of Newer)) (Some (Older, drop 19 bytes)) (Some (Newer, drop 19 bytes)) first second)
