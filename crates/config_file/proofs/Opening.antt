-- What is sealed opens again, to what was sealed and to nothing else.
use Rattle.std.proofs.Common.{[], ◌≡◌, ℕ, ◌≤◌, List, ◌++◌, length, drop, Option, Some, option_and_then, refl, sym, ap, ◌∙◌, subst, arith, length-drop}
use Rattle.std.proofs.lemmas.List.{length-take-le}
use Rattle.std.specs.List.{slice_range}
use Rattle.aes_gcm.specs.Opening.{length-sealed_of, opened_of-sealed_of}
use Rattle.aes_gcm.specs.Gcm.{opened_of, sealed_of}
use Rattle.scrypt_kdf.specs.Cost.{IsAllowed}
use Rattle.serde_json.specs.Read.{read}
use Rattle.config_file.proofs.Held.{is_opened}
use Rattle.config_file.proofs.JsonLength.{length_json_text}
use Rattle.config_file.proofs.JsonReads.{text_reads}
use Rattle.config_file.proofs.Places as place
use Rattle.config_file.specs.ConfigOf.{ConfigOf, ConfigFound, HoldsSettings, IsOnly, form, inner, key_in, locked, opened}
use Rattle.config_file.specs.Format.{HasForm, cipher_field, cost_in, inner_front, inner_in, inner_key, outer_key, salt_in, sealed_in}
use Rattle.config_file.specs.Json.{json_text, settings_in}
use Rattle.config_file.specs.Sealing.{AreFit, Inputs, config_text, inner_text, innermost_text, outer_text}
use Rattle.config_file.specs.Settings.{AreInLimits, Settings}

-- ---- a file is one thing under a password

same_some : {X : Type 0} (x y : X) → Some x ≡ Some y → x ≡ y
same_some x y e = cc e

one_held : (key part : List ℕ) (s t : Settings) → HoldsSettings key part s → HoldsSettings key part t → s ≡ t
one_held key part s t hs ht =
    let same : hs.0 ≡ ht.0 = same_some hs.0 ht.0 (sym hs.1 ∙ ht.1) in
    same_some s t (sym hs.2.1 ∙ ap (λ (text : List ℕ). option_and_then settings_in (read text)) same ∙ ht.2.1)

-- no part that opens holds both a configuration and none
not_both : (key part other : List ℕ) (s : Settings) (o : Option (List ℕ)) → o ≡ Some part → o ≡ Some other → HoldsSettings key part s
    → ((t : Settings) → ¬ HoldsSettings key other t) → ⊥
not_both key part other s o is also holds none = none s (subst (λ (p : List ℕ). HoldsSettings key p s) (same_some part other (sym is ∙ also)) holds)

pub only : (password bytes : List ℕ) (f g : ConfigFound) → ConfigOf password bytes f → ConfigOf password bytes g → f ≡ g
only password bytes (opened s cost) (opened t other) hf hg =
    let key : List ℕ = key_in password bytes in
    let part : hf.2.0 ≡ hg.2.0 = same_some hf.2.0 hg.2.0 (sym hf.2.1 ∙ hg.2.1) in
    let settings : s ≡ t = one_held key hg.2.0 s t (subst (λ (p : List ℕ). HoldsSettings key p s) part hf.2.2) hg.2.2 in
    λ i. opened (settings i) ((hf.1 ∙ sym hg.1) i)
only password bytes (opened s cost) form hf hg = absurd (hg hf.0)
only password bytes (opened s cost) locked hf hg = absurd (cc (sym hf.2.1 ∙ hg.1))
only password bytes (opened s cost) inner hf hg =
    absurd (not_both (key_in password bytes) hf.2.0 hg.1.0 s (inner_in password bytes) hf.2.1 hg.1.1 hf.2.2 hg.1.2)
only password bytes form (opened s cost) hf hg = absurd (hf hg.0)
only password bytes form form hf hg = refl
only password bytes form locked hf hg = absurd (hf hg.0)
only password bytes form inner hf hg = absurd (hf hg.0)
only password bytes locked (opened s cost) hf hg = absurd (cc (sym hg.2.1 ∙ hf.1))
only password bytes locked form hf hg = absurd (hg hf.0)
only password bytes locked locked hf hg = refl
only password bytes locked inner hf hg = absurd (cc (sym hg.1.1 ∙ hf.1))
only password bytes inner (opened s cost) hf hg =
    absurd (not_both (key_in password bytes) hg.2.0 hf.1.0 s (inner_in password bytes) hg.2.1 hf.1.1 hg.2.2 hf.1.2)
only password bytes inner form hf hg = absurd (hg hf.0)
only password bytes inner locked hf hg = absurd (cc (sym hf.1.1 ∙ hg.1))
only password bytes inner inner hf hg = refl

-- ---- the inner part of a sealed file

module _ (i : Inputs) (s : Settings) (fit : AreFit i) (limits : AreInLimits s) where
  abbrev innermost : List ℕ
  innermost = innermost_text (json_text s) i.fill

  abbrev inner_key_of : List ℕ
  inner_key_of = inner_key i.password i.salt i.cost

  abbrev part : List ℕ
  part = inner_text inner_key_of i.inner_iv innermost i.fill

  short : length (json_text s) ≤ 896
  short = length_json_text s limits

  sealed_size : length (sealed_of inner_key_of i.inner_iv [] innermost) ≡ 932
  sealed_size =
      omega (arith, length-sealed_of inner_key_of i.inner_iv [] innermost, fit.inner_iv, place.length-innermost_text (json_text s) i.fill short fit.fill)

  fill_size : length (slice_range i.fill 900 959) ≡ 59
  fill_size = length-take-le 59 (drop 900 i.fill) (omega (arith, length-drop 900 i.fill, fit.fill))

  part_size : length part ≡ 1024
  unfolding inner_text
  part_size =
      omega (arith, place.length-four_parts inner_front cipher_field (sealed_of inner_key_of i.inner_iv [] innermost) (slice_range i.fill 900 959), sealed_size, fill_size)

  part_holds : HoldsSettings inner_key_of part s
  unfolding inner_text
  part_holds =
      let sealed : List ℕ = sealed_of inner_key_of i.inner_iv [] innermost in
      let is : sealed_in part ≡ Some sealed = place.sealed_in-parts sealed (slice_range i.fill 900 959) sealed_size in
      let opens : opened_of inner_key_of [] sealed ≡ Some innermost = opened_of-sealed_of inner_key_of i.inner_iv [] innermost fit.inner_iv in
      (json_text s, is_opened inner_key_of part sealed innermost is opens ∙ place.text_in-innermost_text (json_text s) i.fill short, text_reads s limits)

  -- ---- the file

  abbrev sealed_part : List ℕ
  sealed_part = sealed_of (outer_key i.password i.salt i.cost) i.outer_iv [] part

  abbrev file : List ℕ
  file = outer_text i.cost i.salt ++ sealed_part

  cost_is : cost_in file ≡ i.cost
  cost_is = place.cost_in-outer_text i.cost i.salt sealed_part fit.cost fit.salt

  salt_is : salt_in file ≡ i.salt
  salt_is = place.salt_in-outer_text i.cost i.salt sealed_part fit.cost fit.salt

  has_form : HasForm file
  has_form = record {
    size = omega (arith, place.length-file i.cost i.salt sealed_part fit.cost fit.salt, length-sealed_of (outer_key i.password i.salt i.cost) i.outer_iv [] part, part_size, fit.outer_iv);
    front = place.begins_outer_text i.cost i.salt sealed_part fit.cost fit.salt;
    cost = subst IsAllowed (sym cost_is) fit.cost;
  }

  inner_is : inner_in i.password file ≡ Some part
  inner_is =
      (λ k. opened_of (outer_key i.password (salt_is k) (cost_is k)) [] (place.after_outer_text i.cost i.salt sealed_part fit.cost fit.salt k))
      ∙ opened_of-sealed_of (outer_key i.password i.salt i.cost) i.outer_iv [] part fit.outer_iv

  file_opens : ConfigOf i.password file (opened s i.cost)
  file_opens =
      let key : inner_key_of ≡ key_in i.password file = λ k. inner_key i.password (sym salt_is k) (sym cost_is k) in
      (has_form, sym cost_is, (part, inner_is, subst (λ (k : List ℕ). HoldsSettings k part s) key part_holds))

  -- for every password, parameters, salt, fill, IVs and configuration in their limits
  pub config_text-opens : IsOnly i.password (config_text i s) (opened s i.cost)
  unfolding config_text
  config_text-opens f = (
    λ h. only i.password file f (opened s i.cost) h file_opens,
    λ is. subst (ConfigOf i.password file) (sym is) file_opens,
  )
