-- The byte of a kind is read as that kind, and as no other.
use Rattle.std.proofs.Common.{◌≡◌, ℕ, zero, suc, refl, ap}
use Rattle.std.specs.Prelude.{Some}
use Rattle.fs_model.specs.declared.attr.Kind.{Kind}
use Rattle.fs_model.specs.declared.attr.Kind.TheVariants.{Directory, File, Link}
use Rattle.fs_model.specs.Kinds.{byte_of, kind_at}

pub kind_takes : (byte : ℕ) (kind : Kind) → kind_at byte ≡ Some kind → byte ≡ byte_of kind
kind_takes zero kind e = let is : Directory ≡ kind = cc in ap byte_of is
kind_takes (suc zero) kind e = let is : File ≡ kind = cc in ap byte_of is
kind_takes (suc (suc zero)) kind e = let is : Link ≡ kind = cc in ap byte_of is
kind_takes (suc (suc (suc byte))) kind e = absurd cc

pub kind_again : (kind : Kind) → kind_at (byte_of kind) ≡ Some kind
kind_again Directory = refl
kind_again File = refl
kind_again Link = refl
