-- An entry that is read is the entry that was written.
use Rattle.std.proofs.Common.{◌≡◌, ℕ, suc, ◌^◌, ◌<◌, true, eqb, leb, ltb, List, [], ◌∷◌, ◌++◌, length, get_or, refl, ap, subst, ◌∙◌, append_assoc, arith}
use Rattle.std.specs.Prelude.{Some, not, ◌&&◌}
use Rattle.std.specs.Option.{option_map}
use Rattle.std.specs.List.{list_any}
use Rattle.std.specs.Int.{w32, w64, to_le_bytes}
use Rattle.std.proofs.lemmas.List.{length-append}
use Rattle.std.proofs.lemmas.Bool.{and_parts, not-true, or_parts, ltb-true, leb-true, lt-ltb, le-leb}
use Rattle.fs_model.specs.declared.attr.Attr.{Attr}
use Rattle.fs_model.specs.declared.attr.Kind.{Kind}
use Rattle.fs_model.specs.declared.limits.TheConstants.{MAX_NAME, MAX_MODE, NANOS_PER_SEC}
use Rattle.fs_model.specs.Instant.{Instant}
use Rattle.fs_model.specs.Names.{is_name, is_dots, is_reserved}
use Rattle.byte_fields.specs.Fields.{IsBytes, front_at, number_at}
use Rattle.byte_fields.proofs.Fields.{mapped, Takes}
use Rattle.fs_model.specs.Kinds.{byte_of, kind_at}
use Rattle.fs_model.proofs.KindBytes.{kind_takes, kind_again}
use Rattle.dir_entries.specs.Layout.{EntryTarget, moment_text, attr_text, entry_text, IsMoment, IsAttr, IsEntry}
use Rattle.dir_entries.specs.Reading.{then_at, where_at, kind_of, text_at, moment_at, Parts, attr_of, access_at, owner_at, times_at, attr_at, entry_at, name_at}
use Rattle.dir_entries.proofs.Fields.{IsCodec, then_codec, where_codec, map_codec, u32_codec, u64_codec, front_codec, HasNoZero, text_codec, none_at}

kind_reads : (bytes : List ℕ) (kind : Kind) (rest : List ℕ) → IsBytes bytes → kind_of bytes ≡ Some (kind, rest) → Takes bytes (byte_of kind ∷ []) rest × Unit {0}
unfolding kind_of
kind_reads [] kind rest fits e = absurd cc
kind_reads (byte ∷ bytes) kind rest fits e =
    let found = mapped (kind_at byte) (λ k. (k, bytes)) (kind, rest) e in
    let is : byte ≡ byte_of found.0 = kind_takes byte found.0 found.1 in
    subst (λ (y : Kind × List ℕ). Takes (byte ∷ bytes) (byte_of y.0 ∷ []) y.1 × Unit {0}) found.2
    (record { parts = ap (λ b. b ∷ bytes) is; rest_fits = λ i. fits (suc i) }, tt)

kind_codec : IsCodec kind_of (λ kind. byte_of kind ∷ []) (λ _. Unit {0})
unfolding kind_of
kind_codec = record { takes = kind_reads; again = λ kind rest _. ap (option_map (λ k. (k, rest))) (kind_again kind) }

moment_codec : IsCodec moment_at moment_text IsMoment
unfolding moment_at moment_text
moment_codec =
    map_codec (λ p. record { secs = p.0; nanos = p.1 }) (λ m. (m.secs, m.nanos)) _ _ moment_text _ IsMoment
    (λ m. refl) (λ p. refl)
    (λ p is. record { secs = is.0; nanos = ltb-true _ _ is.1.1 })
    (λ m is. (is.secs, (omega (arith, is.nanos), lt-ltb _ _ is.nanos)))
    (then_codec (number_at w64) _ (to_le_bytes w64) (to_le_bytes w32) _ _ u64_codec (where_codec (λ n. ltb n NANOS_PER_SEC) (number_at w32) (to_le_bytes w32) _ u32_codec))

abbrev access_text : Kind × ℕ → List ℕ
access_text a = (byte_of a.0 ∷ []) ++ to_le_bytes w32 a.1

abbrev owner_text : ℕ × ℕ → List ℕ
owner_text o = to_le_bytes w32 o.0 ++ to_le_bytes w32 o.1

abbrev times_text : Instant × (Instant × Instant) → List ℕ
times_text t = moment_text t.0 ++ (moment_text t.1.0 ++ moment_text t.1.1)

abbrev IsAccess : Kind × ℕ → Type 0
IsAccess a = Unit {0} × ((a.1 < 2 ^ 32) × (leb a.1 MAX_MODE ≡ true))

abbrev IsOwner : ℕ × ℕ → Type 0
IsOwner o = (o.0 < 2 ^ 32) × (o.1 < 2 ^ 32)

abbrev AreTimes : Instant × (Instant × Instant) → Type 0
AreTimes t = IsMoment t.0 × (IsMoment t.1.0 × IsMoment t.1.1)

access_codec : IsCodec access_at access_text IsAccess
unfolding access_at
access_codec = then_codec kind_of _ (λ kind. byte_of kind ∷ []) (to_le_bytes w32) _ _ kind_codec (where_codec (λ mode. leb mode MAX_MODE) (number_at w32) (to_le_bytes w32) _ u32_codec)

owner_codec : IsCodec owner_at owner_text IsOwner
unfolding owner_at
owner_codec = then_codec (number_at w32) (number_at w32) (to_le_bytes w32) (to_le_bytes w32) _ _ u32_codec u32_codec

times_codec : IsCodec times_at times_text AreTimes
unfolding times_at
times_codec = then_codec moment_at _ moment_text _ IsMoment _ moment_codec (then_codec moment_at moment_at moment_text moment_text IsMoment IsMoment moment_codec moment_codec)

abbrev parts_text : Parts → List ℕ
parts_text p = access_text p.0 ++ (owner_text p.1.0 ++ times_text p.1.1)

abbrev AreParts : Parts → Type 0
AreParts p = IsAccess p.0 × (IsOwner p.1.0 × AreTimes p.1.1)

abbrev parts_of : Attr → Parts
parts_of a = ((a.kind, a.mode), ((a.uid, a.gid), (a.atime, (a.mtime, a.ctime))))

same_parts : (p : Parts) → attr_text (attr_of p) ≡ parts_text p
unfolding attr_text
same_parts p = simp append_assoc

attr_codec : IsCodec attr_at attr_text IsAttr
unfolding attr_at
attr_codec =
    map_codec attr_of parts_of _ parts_text attr_text AreParts IsAttr (λ a. refl) same_parts
    (λ p is. record { mode = leb-true _ _ is.0.1.1; uid = is.1.0.0; gid = is.1.0.1; atime = is.1.1.0; mtime = is.1.1.1.0; ctime = is.1.1.1.1 })
    (λ a is. ((tt, (omega (arith, is.mode), le-leb _ _ is.mode)), ((is.uid, is.gid), (is.atime, (is.mtime, is.ctime)))))
    (then_codec access_at _ access_text _ IsAccess _ access_codec (then_codec owner_at times_at owner_text times_text IsOwner AreTimes owner_codec times_codec))

-- a name has no zero
without_zero : (name : List ℕ) → is_name name ≡ true → HasNoZero name
without_zero name is k lt =
    let long = and_parts (ltb 0 (length name)) (leb (length name) MAX_NAME && (not (list_any is_reserved name) && not (is_dots name))) is in
    let short = and_parts (leb (length name) MAX_NAME) (not (list_any is_reserved name) && not (is_dots name)) long.1 in
    let clean = and_parts (not (list_any is_reserved name)) (not (is_dots name)) short.1 in
    (or_parts (eqb (get_or name k 0) 0) (eqb (get_or name k 0) 47) (none_at is_reserved name k (not-true _ clean.0) lt)).0

same_entry : (p : Attr × (List ℕ × List ℕ)) → attr_text p.0 ++ p.1.0 ++ 0 ∷ p.1.1 ≡ attr_text p.0 ++ ((p.1.0 ++ 0 ∷ []) ++ p.1.1)
same_entry p = simp append_assoc

pub entry_codec : IsCodec entry_at entry_text IsEntry
unfolding entry_at entry_text
entry_codec =
    map_codec (λ p. (p.1.0, record { attr = p.0; blob = p.1.1 })) (λ e. (e.1.attr, (e.0, e.1.blob))) _ _ entry_text _ IsEntry (λ e. refl) same_entry
    (λ p is. record { name = is.1.0.1; attr = is.0; blob = is.1.1 })
    (λ e is. (is.attr, ((without_zero e.0 is.name, is.name), is.blob)))
    (then_codec attr_at _ attr_text _ IsAttr _ attr_codec (then_codec (where_at is_name text_at) (front_at 16) (λ text. text ++ 0 ∷ []) (λ id. id) _ _ (where_codec is_name text_at (λ text. text ++ 0 ∷ []) HasNoZero text_codec) (front_codec 16)))

-- ---- its name alone

-- the bytes of attributes, the name, and the id's bytes
abbrev passed_text : List ℕ × (List ℕ × List ℕ) → List ℕ
passed_text p = p.0 ++ ((p.1.0 ++ 0 ∷ []) ++ p.1.1)

passed_codec : IsCodec (then_at (front_at 49) (then_at text_at (front_at 16))) passed_text (λ p. (length p.0 ≡ 49) × (HasNoZero p.1.0 × (length p.1.1 ≡ 16)))
passed_codec = then_codec (front_at 49) _ (λ front. front) _ _ _ (front_codec 49) (then_codec text_at (front_at 16) (λ text. text ++ 0 ∷ []) (λ id. id) _ _ text_codec (front_codec 16))

-- something stands in front of what follows
pub name_takes : (bytes name rest : List ℕ) → IsBytes bytes → name_at bytes ≡ Some (name, rest) → (text : List ℕ) × Takes bytes text rest × (0 < length text)
unfolding name_at
name_takes bytes name rest fits e =
    let found = mapped (then_at (front_at 49) (then_at text_at (front_at 16)) bytes) (λ a. (a.0.1.0, a.1)) (name, rest) e in
    let took = passed_codec.takes bytes found.0.0 found.0.1 fits found.1 in
    let some : 0 < length (passed_text found.0.0) = omega (arith, length-append found.0.0.0 ((found.0.0.1.0 ++ 0 ∷ []) ++ found.0.0.1.1), took.1.0) in
    subst (λ (y : List ℕ × List ℕ). (text : List ℕ) × Takes bytes text y.1 × (0 < length text)) found.2 (passed_text found.0.0, took.0, some)

attr_length : (a : Attr) → length (attr_text a) ≡ 49
unfolding attr_text moment_text
attr_length a = refl

-- what an entry says of its name and its length, they say alone
pub name_of_entry : (bytes : List ℕ) (e : List ℕ × EntryTarget) (rest : List ℕ) → IsBytes bytes → entry_at bytes ≡ Some (e, rest) → name_at bytes ≡ Some (e.0, rest)
unfolding name_at entry_text
name_of_entry bytes e rest fits found =
    let took = entry_codec.takes bytes e rest fits found in
    let parts : List ℕ × (List ℕ × List ℕ) = (attr_text e.1.attr, (e.0, e.1.blob)) in
    let whole : bytes ≡ passed_text parts ++ rest = took.0.parts ∙ ap (λ text. text ++ rest) (same_entry (e.1.attr, (e.0, e.1.blob))) in
    ap name_at whole ∙ ap (option_map (λ a. (a.0.1.0, a.1))) (passed_codec.again parts rest (attr_length e.1.attr, (without_zero e.0 took.1.name, took.1.blob)))
