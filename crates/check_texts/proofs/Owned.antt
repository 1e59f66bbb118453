-- The owners of blocks, one after another.
use Rattle.std.proofs.Common.{◌≡◌, ℕ, ◌+◌, ◌<◌, List, [], ◌∷◌, ◌++◌, length, map, take, sym, ◌∙◌, ap, subst, inl, inr, arith, append_assoc}
use Rattle.std.proofs.lemmas.List.{map_push, take_more}
use Rattle.std.proofs.lemmas.Option.{slice_get_cases, same_Some}
use Rattle.std.specs.List.{flat_map, slice_get}
use Rattle.std.specs.Option.{option_map}
use Rattle.std.specs.declared.option.Option.{Option}
use Rattle.std.specs.declared.option.Option.TheVariants.{None, Some}
use Rattle.block_id.specs.declared.id.BlockId.{BlockId}
use Rattle.cryfs_check.specs.check_rules.Certificates.{Owners}
use Rattle.fs_model.specs.Tree.{Path}
use Rattle.outside.specs.FileTexts.{text_of_file}
use Rattle.outside.specs.Trace.{block}
use Rattle.check_refused.specs.store_api.Content.{Id}
use Rattle.check_texts.proofs.Passing.{more_in}
use Rattle.check_texts.specs.Strangers.{block_file}
use Rattle.check_texts.specs.Texts.{owner_text, owner_text_at}

-- the line of one owner more
pub owner_more : (owners : Owners) (i : ℕ) → i < length owners → flat_map owner_text (take i owners) ++ owner_text_at (slice_get owners i) ≡ flat_map owner_text (take (i + 1) owners)
owner_more owners i within = elim (slice_get_cases owners i).1 [
  | inl (o, low, at, is) ↦ subst (λ (found : Option (Id × Path)). flat_map owner_text (take i owners) ++ owner_text_at found ≡ flat_map owner_text (take (i + 1) owners)) (sym at) (more_in owner_text owners i o within (sym is))
  | inr (past, none) ↦ absurd (omega (arith, within, past))
]

-- the name of one file more
pub file_more : (owners : Owners) (i : ℕ) (id : BlockId) (files start : List (List ℕ)) → i < length owners → Some id.0 ≡ option_map (λ o. o.0) (slice_get owners i)
    → files ≡ start ++ map block_file (take i owners) → files ++ text_of_file (block id.0) ∷ [] ≡ start ++ map block_file (take (i + 1) owners)
file_more owners i id files start within same so_far = elim (slice_get_cases owners i).1 [
  | inl (o, low, at, is) ↦
      let named : id.0 ≡ o.0 = same_Some _ _ (same ∙ ap (option_map (λ (o : Id × Path). o.0)) at) in
      ap (λ fs. fs ++ text_of_file (block id.0) ∷ []) so_far
      ∙ (ap (λ name. (start ++ map block_file (take i owners)) ++ text_of_file (block name) ∷ []) named
      ∙ (append_assoc start (map block_file (take i owners)) (block_file o ∷ [])
      ∙ ap (λ fs. start ++ fs) (sym (map_push block_file (take i owners) o) ∙ ap (map block_file) (sym (take_more owners i o within ∙ ap (λ x. take i owners ++ x ∷ []) is)))))
  | inr (past, none) ↦ absurd (omega (arith, within, past))
]

abbrev none_id : Option Id
none_id = None

-- each number below their count is an owner's
pub file_there : (owners : Owners) (i : ℕ) → i < length owners → none_id ≡ option_map (λ o. o.0) (slice_get owners i) → ⊥
file_there owners i within same = elim (slice_get_cases owners i).1 [
  | inl (o, low, at, is) ↦ absurd (lost (same ∙ ap (option_map (λ (o : Id × Path). o.0)) at))
  | inr (past, none) ↦ absurd (omega (arith, within, past))
]
  where
    lost : {x : Id} → none_id ≡ Some x → ⊥
    lost e = cc
