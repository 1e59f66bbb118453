-- Trees as values that a model may have.
use Rattle.std.specs.Prelude.{◌≡◌, ℕ, suc, zero, List, refl}
use Rattle.std.specs.Coded.{Coded, code_by, coded×, coded_ℕ, coded_list}
use Rattle.std.specs.FinMap as finite_map
use Rattle.fs_model.specs.declared.attr.Attr.{Attr}
use Rattle.fs_model.specs.declared.attr.Kind.{Kind}
use Rattle.fs_model.specs.declared.attr.Kind.TheVariants.{Directory, File, Link}
use Rattle.fs_model.specs.Instant.{Instant}
use Rattle.fs_model.specs.Tree.{Row, Tree}

abbrev pub kind_number : Kind → ℕ
kind_number Directory = 0
kind_number File = 1
kind_number Link = 2

abbrev pub kind_of : ℕ → Kind
kind_of zero = Directory
kind_of (suc zero) = File
kind_of (suc (suc n)) = Link

pub kind_of-number : (k : Kind) → kind_of (kind_number k) ≡ k
kind_of-number Directory = refl
kind_of-number File = refl
kind_of-number Link = refl

abbrev pub kind_code : Coded Kind
kind_code = code_by ℕ coded_ℕ kind_number kind_of kind_of-number

abbrev pub instant_code : Coded Instant
instant_code = code_by (ℕ × ℕ) (coded× coded_ℕ coded_ℕ) (λ i. (i.secs, i.nanos)) (λ p. record { secs = p.0; nanos = p.1 }) (λ _. refl)

abbrev pub attr_code : Coded Attr
attr_code =
    code_by (Kind × (ℕ × (ℕ × (ℕ × (Instant × (Instant × Instant))))))
    (coded× kind_code (coded× coded_ℕ (coded× coded_ℕ (coded× coded_ℕ (coded× instant_code (coded× instant_code instant_code))))))
    (λ a. (a.kind, (a.mode, (a.uid, (a.gid, (a.atime, (a.mtime, a.ctime)))))))
    (λ p. record { kind = p.0; mode = p.1.0; uid = p.1.1.0; gid = p.1.1.1.0; atime = p.1.1.1.1.0; mtime = p.1.1.1.1.1.0; ctime = p.1.1.1.1.1.1 })
    (λ _. refl)

abbrev pub row_code : Coded Row
row_code = code_by (Attr × List ℕ) (coded× attr_code (coded_list coded_ℕ)) (λ r. (r.attr, r.bytes)) (λ p. record { attr = p.0; bytes = p.1 }) (λ _. refl)

abbrev pub tree_code : Coded Tree
tree_code = finite_map.code (coded_list (coded_list coded_ℕ)) row_code
