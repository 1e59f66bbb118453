use Rattle.std.proofs.Common.{◌≡◌, ℕ, ◌+◌, ◌-◌, ◌<◌, ◌≤◌, List, [], ◌∷◌, ◌++◌, length, get_or, take, drop, map, Global, String, sym, ap, ◌∙◌, append_assoc, arith, rules}
use Rattle.std.specs.List.{flat_map}
use Rattle.std.specs.String.{string_bytes}
use Rattle.std.proofs.lemmas.List.{take_all, take_more, map_push, flat_map_more}
use Rattle.program_words.specs.Forms.{joined}
use Rattle.program_words.proofs.line.joined.Goals as goal

-- the words after the first, each behind a space
abbrev spaced : List (String Global) → List ℕ
spaced words = flat_map (λ word. 32 ∷ word) (map string_bytes words)

-- one word more
more : (front line : List ℕ) (words : List (String Global)) (i : ℕ) (word : String Global) → i < length words → word ≡ get_or words i word
    → line ≡ front ++ spaced (take i words) → (line ++ 32 ∷ []) ++ string_bytes word ≡ front ++ spaced (take (i + 1) words)
more front line words i word lt is so_far =
    let next : take i words ++ word ∷ [] ≡ take (i + 1) words = ap (λ w. take i words ++ w ∷ []) is ∙ sym (take_more words i word lt) in
    append_assoc line (32 ∷ []) (string_bytes word)
    ∙ ap (λ (l : List ℕ). l ++ (32 ∷ string_bytes word)) so_far
    ∙ flat_map_more (λ w. 32 ∷ w) front (map string_bytes (take i words)) (string_bytes word)
    ∙ ap (λ ws. front ++ flat_map (λ w. 32 ∷ w) ws) (sym (map_push string_bytes (take i words) word) ∙ ap (map string_bytes) next)

-- all words
whole : (words : List (String Global)) (first : String Global) (front line : List ℕ) (i : ℕ) → 1 ≤ length words → first ≡ get_or words 0 first
    → front ≡ string_bytes first → length (take (length words - 1) (drop 1 words)) ≤ i
    → line ≡ front ++ spaced (take i (take (length words - 1) (drop 1 words))) → line ≡ joined (map string_bytes words)
whole [] first front line i some is begun all so_far = absurd (omega arith)
whole (word ∷ words) first front line i some is begun all so_far =
    so_far ∙ ap (λ ws. front ++ spaced ws) (take_all i _ all ∙ take_all (length (word ∷ words) - 1) words (omega arith))
    ∙ ap (λ (l : List ℕ). l ++ spaced words) (begun ∙ ap string_bytes is)

pub loop-word-preserved : goal.loop-word-preserved
loop-word-preserved c =
    let words = take (length c.args.words.now - 1) (drop 1 c.args.words.now) in
    c.in_ok-extend_from_slice-2.ensures.items
    ∙ (λ i. c.in_ok-push.ensures.items i ++ c.as_bytes-in-loop-word.ensures.value i)
    ∙ more c.extend_from_slice.new.self.items c.loop-word.line.items words c.loop-word.word-index c.word-item.result c.loop-word-test.true c.word-item.is c.loop-word.invariant

pub returns : goal.returns
returns c = whole c.args.words.now c.first-item.result c.extend_from_slice.new.self.items c.loop-word.line.items c.loop-word.word-index c.in-len1-up.len_at_least c.first-item.is (search rules) c.loop-word-test.false c.loop-word.invariant
