-- Reads leave what is wanted, what is sound, and what was found before.
use Rattle.std.specs.Prelude.{◌≡◌, ◌⊎◌, ℕ, ◌+◌, Bool, true, false, List, [], ◌∷◌, ◌++◌, is_some}
use Rattle.std.specs.declared.option.Option.{Option}
use Rattle.std.specs.declared.option.Option.TheVariants.{None, Some}
use Rattle.std.proofs.Common.{refl, sym, ◌∙◌, ap, subst, inl, inr, append_assoc}
use Rattle.std.proofs.lemmas.List.{append_cancel_right}
use Rattle.block_id.specs.declared.fail.Why.{Why}
use Rattle.outside.specs.Trace.{block, Call, got, put, At}
use Rattle.outside.specs.Honest.{last_change}
use Rattle.outside.specs.Going.{GoesOn}
use Rattle.store_api.specs.Content.{SameIds, SameContent}
use Rattle.store_api.specs.Durables.{last_told}
use Rattle.block_versions.specs.BlockRecords.{Record, payload_in}
use Rattle.block_versions.specs.Held.{Held, file_of, live_version, told_or_none, wanted, where_live}
use Rattle.block_versions.specs.Reads.{AllReads, Among, FoundWrong, FoundSince, GaveBad, GaveWrong, WentOnByReads}
use Rattle.block_versions.specs.Soundness.{IsPast, SoundAt, SoundBy}

-- ---- lists of reads

all_reads-append : (h : Held) (xs ys : List Call) → AllReads h xs → AllReads h ys → AllReads h (xs ++ ys)
all_reads-append h [] ys a b = b
all_reads-append h (x ∷ xs) ys a b = (a.0, all_reads-append h xs ys a.1 b)

pub went_same : (h : Held) (trace : Option (List Call)) → WentOnByReads h trace trace
went_same h None = refl
went_same h (Some t) = ([], refl, tt)

pub went_on : (h : Held) (a b c : Option (List Call)) → WentOnByReads h a b → WentOnByReads h b c → WentOnByReads h a c
went_on h None b c first second = subst (λ b. WentOnByReads h b c) first second
went_on h (Some t) b c (xs, is, all) second =
    let (ys, is', all') = subst (λ b. WentOnByReads h b c) is second in
    (ys ++ xs, is' ∙ ap Some (sym (append_assoc ys xs t)), all_reads-append h ys xs all' all)

among-left : (xs ys : List Call) (call : Call) → Among xs call → Among (xs ++ ys) call
among-left [] ys call in_ = absurd in_
among-left (x ∷ xs) ys call (inl is) = inl is
among-left (x ∷ xs) ys call (inr in_) = inr (among-left xs ys call in_)

among-right : (xs ys : List Call) (call : Call) → Among ys call → Among (xs ++ ys) call
among-right [] ys call in_ = in_
among-right (x ∷ xs) ys call in_ = inr (among-right xs ys call in_)

found_more : (h : Held) (xs ys : List Call) (why : Why) → ((call : Call) → Among xs call → Among ys call) → FoundWrong h xs why → FoundWrong h ys why
found_more h xs ys why more f = record {
  id = f.id;
  version = f.version;
  file = f.file;
  live = f.live;
  wrong = f.wrong;
  came = elim f.came [ inl w ↦ inl w | inr in_ ↦ inr (more _ in_) ];
}

pub found_before : (h : Held) (a b c : Option (List Call)) (why : Why) → WentOnByReads h a b → WentOnByReads h b c → FoundSince h a b why → FoundSince h a c why
found_before h None b c why first second found = tt
found_before h (Some t) b c why first second (reads, is, found) =
    let (ys, is', all') = subst (λ b. WentOnByReads h b c) is second in
    (ys ++ reads, is' ∙ ap Some (sym (append_assoc ys reads t)), found_more h reads (ys ++ reads) why (among-right ys reads) found)

pub found_after : (h : Held) (a b c : Option (List Call)) (why : Why) → WentOnByReads h a b → WentOnByReads h b c → FoundSince h b c why → FoundSince h a c why
found_after h None b c why first second found = tt
found_after h (Some t) b c why (xs, is, all) second found =
    let (ys, is', found') = subst (λ b. FoundSince h b c why) is found in
    (ys ++ xs, is' ∙ ap Some (sym (append_assoc ys xs t)), found_more h ys (ys ++ xs) why (among-left ys xs) found')

-- ---- what calls gave

some_trace : {a b : List Call} → Some a ≡ Some b → a ≡ b
some_trace e = cc

gave_none : (h : Held) (why : Why) → GaveBad h [] why → ⊥
gave_none h why g = g.came

-- where no call was made, none gave a file
pub gave_same : (h : Held) (t : Option (List Call)) (why : Why) → GaveWrong h t t why → ⊥
gave_same h None why g = g
gave_same h (Some t) why (calls, is, gave) = gave_none h why (subst (λ calls. GaveBad h calls why) (sym (append_cancel_right [] calls t (some_trace is))) gave)

among_either : (xs ys : List Call) (call : Call) → Among (xs ++ ys) call → Among xs call ⊎ Among ys call
among_either [] ys call among = inr among
among_either (x ∷ xs) ys call (inl is) = inl (inl is)
among_either (x ∷ xs) ys call (inr among) = elim (among_either xs ys call among) [ inl a ↦ inl (inr a) | inr a ↦ inr a ]

gave_as : (h : Held) (calls others : List Call) (why : Why) (g : GaveBad h calls why) → Among others (got (block g.id) (h.size + 1) g.file) → GaveBad h others why
gave_as h calls others why g came = record { id = g.id; version = g.version; file = g.file; live = g.live; wrong = g.wrong; came = came }

gave_either : (h : Held) (xs ys : List Call) (why : Why) → GaveBad h (xs ++ ys) why → GaveBad h xs why ⊎ GaveBad h ys why
gave_either h xs ys why g = elim (among_either xs ys (got (block g.id) (h.size + 1) g.file) g.came) [
  | inl a ↦ inl (gave_as h (xs ++ ys) xs why g a)
  | inr a ↦ inr (gave_as h (xs ++ ys) ys why g a)
]

-- what was given on two ways was given on one of them
pub gave_split : (h : Held) (a b c : Option (List Call)) (why : Why) → WentOnByReads h a b → WentOnByReads h b c → GaveWrong h a c why → GaveWrong h a b why ⊎ GaveWrong h b c why
gave_split h None b c why first second g = absurd g
gave_split h (Some t) b c why (xs, is, all) second (calls, is', gave) =
    let (ys, more, all') = subst (λ b. WentOnByReads h b c) is second in
    let same : calls ≡ ys ++ xs = append_cancel_right calls (ys ++ xs) t (some_trace (sym is' ∙ more) ∙ sym (append_assoc ys xs t)) in
    elim (gave_either h ys xs why (subst (λ calls. GaveBad h calls why) same gave)) [
      | inl later ↦ inr (subst (λ b. GaveWrong h b c why) (sym is) (ys, more, later))
      | inr earlier ↦ inl (xs, is, earlier)
    ]

-- ---- soundness

past-got : (h : Held) (trace : List Call) (name : At) (max : ℕ) (answer : Option (List ℕ)) (r : Record) → IsPast h trace r → IsPast h (got name max answer ∷ trace) r
past-got h trace name max answer r p = record { life = p.life; used = p.used; version = p.version; payload = p.payload }

got_put : (name other : At) (max : ℕ) (answer : Option (List ℕ)) (bytes : List ℕ) (ok : Bool) → got name max answer ≡ put other bytes ok → ⊥
got_put name other max answer bytes ok e = cc

pub sound-got : (h : Held) (trace : List Call) (name : At) (max : ℕ) (answer : Option (List ℕ)) → SoundAt h trace → SoundAt h (got name max answer ∷ trace)
sound-got h trace name max answer s = record {
  waits = s.waits;
  stands = s.stands;
  buried = s.buried;
  past = λ id bytes r was opens own. past-got h trace name max answer r (s.past id bytes r was opens own);
  sealed = λ id bytes ok among. elim among [
    | inl is ↦ absurd (got_put name (block id) max answer bytes ok is)
    | inr before ↦ s.sealed id bytes ok before
  ];
}

-- reads by a store that holds k leave what is sound of h
pub sound-reads : (h k : Held) (trace reads : List Call) → AllReads k reads → SoundAt h trace → SoundAt h (reads ++ trace)
sound-reads h k trace [] all s = s
sound-reads h k trace (call ∷ reads) all s =
    subst (λ c. SoundAt h (c ∷ reads ++ trace)) (sym all.0.is) (sound-got h (reads ++ trace) (block all.0.id) (k.size + 1) all.0.answer (sound-reads h k trace reads all.1 s))

pub went_sound : (h k : Held) (a b : Option (List Call)) → WentOnByReads k a b → SoundBy h a → SoundBy h b
went_sound h k None b went sound = absurd sound
went_sound h k (Some t) b (reads, is, all) sound = subst (SoundBy h) (sym is) (sound-reads h k t reads all sound)

-- ---- what is wanted, and what was told

false_is_true : false ≡ true → ⊥
false_is_true e = cc

pub wanted-reads : (h k : Held) (trace reads : List Call) (id : List ℕ) → AllReads k reads → wanted h (Some (reads ++ trace)) id ≡ wanted h (Some trace) id
wanted-reads h k trace [] id all = refl
wanted-reads h k trace (call ∷ reads) id all =
    ap (λ c. wanted h (Some (c ∷ reads ++ trace)) id) all.0.is ∙ wanted-reads h k trace reads id all.1

ids_of : (live : Option ℕ) (a b : List ℕ) → is_some (where_live live b) ≡ is_some (where_live live a)
ids_of None a b = refl
ids_of (Some version) a b = refl

pub wanted_ids : (h : Held) (old new : Option (List Call)) → SameIds (wanted h old) (wanted h new)
wanted_ids h old new id =
    ids_of (live_version h id) (payload_in h.opens h.size id (file_of h (told_or_none old) id)) (payload_in h.opens h.size id (file_of h (told_or_none new) id))

pub went_wanted : (h k : Held) (old new : Option (List Call)) → WentOnByReads k old new → is_some old ≡ true → SameContent (wanted h old) (wanted h new)
went_wanted h k None new went told id = absurd (false_is_true told)
went_wanted h k (Some t) new (reads, is, all) told id = ap (λ n. wanted h n id) is ∙ wanted-reads h k t reads id all

pub went_told : (h : Held) (old new : Option (List Call)) → WentOnByReads h old new → is_some new ≡ is_some old
went_told h None new went = ap is_some went
went_told h (Some t) new (reads, is, all) = ap is_some is

-- ---- changes, and calls

-- reads are no changes
last_after : (h : Held) (name : At) (reads trace : List Call) → AllReads h reads → last_change name (reads ++ trace) ≡ last_change name trace
last_after h name [] trace all = refl
last_after h name (call ∷ reads) trace all = ap (λ c. last_change name (c ∷ (reads ++ trace))) all.0.is ∙ last_after h name reads trace all.1

pub last_went : (h : Held) (name : At) (a b : Option (List Call)) → WentOnByReads h a b → last_told name b ≡ last_told name a
last_went h name None b went = ap (last_told name) went
last_went h name (Some t) b (reads, is, all) = ap (last_told name) is ∙ last_after h name reads t all

pub goes_on : (h : Held) (a b : Option (List Call)) → WentOnByReads h a b → GoesOn a b
goes_on h None b went = went
goes_on h (Some t) b (reads, is, all) = (reads, is)
