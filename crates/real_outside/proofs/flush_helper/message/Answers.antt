use Rattle.std.proofs.Common.{◌≡◌, ◌++◌, ℕ, List, [], length, take, drop, ap, ◌∙◌, arith, append-nil, length-append, length-drop}
use Rattle.std.proofs.lemmas.List.{drop_all, take_at}
use borrow.Rule.Slice.PartMut.{put_mid}
use Rattle.real_outside.proofs.flush_helper.message.Goals as goal

-- eight bytes are put behind eight, over the last eight of sixteen
halves : (word zeros new : List ℕ) → length word ≡ 8 → length zeros ≡ 8 → put_mid 8 8 (word ++ zeros) new ≡ word ++ new
halves word zeros new eight others =
    let front : take 8 (word ++ zeros) ≡ word = take_at word zeros 8 eight in
    let none : drop 8 (drop 8 (word ++ zeros)) ≡ [] =
    drop_all 8 (drop 8 (word ++ zeros)) (omega (arith, length-drop 8 (word ++ zeros), length-append word zeros, eight, others)) in
    (λ i. front i ++ (new ++ none i)) ∙ ap (λ (l : List ℕ). word ++ l) (append-nil new)

pub returns : goal.returns
returns c =
    let word : List ℕ = c.copy_from_slice.new.self in
    let is_word : word ≡ c.args.word = c.copy_from_slice.ensures.after in
    halves word _ c.copy_from_slice-2.new.self (omega (arith, ap length is_word)) (omega arith)
    ∙ (λ i. is_word i ++ (c.copy_from_slice-2.ensures.after ∙ c.to_le_bytes.ensures) i)
