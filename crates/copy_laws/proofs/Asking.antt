-- Questions that are asked one after the other, and what their commands count.
use Rattle.std.proofs.Common.{◌≡◌, ℕ, ◌+◌, ◌≤◌, List, [], ◌∷◌, ◌++◌, refl, sym, ◌∙◌, ap, subst, arith, append_assoc}
use Rattle.std.proofs.lemmas.List.{map-append}
use Rattle.std.specs.declared.result.Result.{Result}
use Rattle.fs_model.specs.declared.command.Command.{Command}
use Rattle.fs_model.specs.declared.reply.Reply.{Reply}
use Rattle.fs_model.specs.Instant.{Instant}
use Rattle.fs_model.specs.Tree.{Tree}
use Rattle.host_folder.specs.Folders.{HostPath}
use Rattle.copy_laws.specs.declared.asker.Stopped.{Stopped}
use Rattle.copy_laws.specs.declared.copied.Totals.{Totals}
use Rattle.copy_laws.specs.Ends.{LastWas, total, counted, one_counted, totals_of, up_to, dirs_by, files_by, links_by, bytes_by}
use Rattle.copy_laws.specs.Questions.{Question, Asking, LawfulAsker, Asked, AreDone, AreAnswered, IsAnswered, Followed, commands_of}

pub answered_append : (qs rs : List Question) → AreAnswered (qs ++ rs) → AreAnswered qs × AreAnswered rs
answered_append [] rs h = (tt, h)
answered_append (q ∷ qs) rs h = let more = answered_append qs rs h.1 in ((h.0, more.0), more.1)

pub answered_done : (qs : List Question) → AreDone qs → AreAnswered qs
answered_done [] h = tt
answered_done (q ∷ qs) h = (subst IsAnswered (sym h.0) tt, answered_done qs h.1)

pub done_append : (qs rs : List Question) → AreDone qs → AreDone rs → AreDone (qs ++ rs)
done_append [] rs h g = g
done_append (q ∷ qs) rs h g = (h.0, done_append qs rs h.1 g)

pub commands_append : (qs rs : List Question) → commands_of (qs ++ rs) ≡ commands_of qs ++ commands_of rs
commands_append qs rs = map-append (λ (q : Question). q.command) qs rs

pub last_append : (qs rs : List Question) (p : HostPath) (outcome : Result Reply Stopped) → AreDone qs → LastWas rs p outcome → LastWas (qs ++ rs) p outcome
last_append qs rs p outcome done l = record {
  front = qs ++ l.front;
  last = l.last;
  are = ap (λ z. qs ++ z) l.are ∙ sym (append_assoc qs l.front (record { command = l.last; outcome = outcome } ∷ []));
  done = done_append qs l.front done l.done;
  at = l.at;
}

followed_append : (now : Instant) (qs rs : List Question) (t mid last : Tree) → Followed t now qs mid → Followed mid now rs last → Followed t now (qs ++ rs) last
followed_append now [] rs t mid last h g = subst (λ z. Followed z now rs last) h g
followed_append now (q ∷ qs) rs t mid last (next, (a, h)) g = (next, (a, followed_append now qs rs next mid last h g))

module _ {A : Type 0} (M : Asking A) (lawful : LawfulAsker M) where
  pub asked_none : (a : A) → Asked M a a []
  asked_none a = record {
    went = lawful.none a;
    moment = refl;
    forgeries = omega arith;
    stops = omega arith;
    quiet = λ h. refl;
    stands = λ t h f. (t, (refl, λ all. h));
  }

  pub asked_then : (a b c : A) (qs rs : List Question) → Asked M a b qs → AreAnswered qs → Asked M b c rs → Asked M a c (qs ++ rs)
  asked_then a b c qs rs x all y =
      let up : M.forgeries a ≤ M.forgeries b = x.forgeries in
      let on : M.forgeries b ≤ M.forgeries c = y.forgeries in
      let stop : M.stops a ≤ M.stops b = x.stops in
      let go : M.stops b ≤ M.stops c = y.stops in
      record {
        went = lawful.onward a b c qs rs x.went y.went;
        moment = y.moment ∙ x.moment;
        forgeries = omega (arith, up, on);
        stops = omega (arith, stop, go);
        quiet = λ h. y.quiet (answered_append qs rs h).1 ∙ x.quiet all;
        stands = λ t h f. onward t h f;
      }
    where
      onward : (t : Tree) → M.stands_for a t → M.forgeries c ≤ M.forgeries a → (next : Tree) × (Followed t (M.moment a) (qs ++ rs) next × (AreAnswered (qs ++ rs) → M.stands_for c next))
      onward t h f =
          let up : M.forgeries a ≤ M.forgeries b = x.forgeries in
          let on : M.forgeries b ≤ M.forgeries c = y.forgeries in
          let first = x.stands t h (omega (arith, f, on)) in
          let second = y.stands first.0 (first.1.1 all) (omega (arith, f, up)) in
          (second.0, (followed_append (M.moment a) qs rs t first.0 second.0 first.1.0 (subst (λ now. Followed first.0 now rs second.0) x.moment second.1.0), λ both. second.1.1 (answered_append qs rs both).1))

up_to_then : (a b c : ℕ) → up_to (up_to (a + b) + c) ≡ up_to (a + (b + c))
up_to_then a b c = omega arith

pub counted_then : (t : Totals) (cs ds : List Command) → counted (counted t cs) ds ≡ counted t (cs ++ ds)
counted_then t [] ds = refl
counted_then t (c ∷ cs) ds = counted_then (one_counted t c) cs ds

-- totals within their type
pub record AreCounts (t : Totals) : Type 0 where
  pub dirs : t.dirs ≤ 18446744073709551615
  pub files : t.files ≤ 18446744073709551615
  pub links : t.links ≤ 18446744073709551615
  pub bytes : t.bytes ≤ 18446744073709551615

still : (n : ℕ) → n ≤ 18446744073709551615 → up_to (n + 0) ≡ n
still n h = omega arith

from_none : (n : ℕ) → up_to (0 + n) ≡ up_to n
from_none n = omega arith

abbrev pub no_totals : Totals
no_totals = record { dirs = 0; files = 0; links = 0; bytes = 0 }

counts_one : (t : Totals) (c : Command) → AreCounts (one_counted t c)
counts_one t c = record { dirs = omega arith; files = omega arith; links = omega arith; bytes = omega arith }

one_then : (a b c : ℕ) → up_to (up_to (a + b) + c) ≡ up_to (a + (b + c))
one_then a b c = omega arith

-- what each command adds is added together
summed : Totals → List Command → Totals
summed t cs = record {
  dirs = up_to (t.dirs + total dirs_by cs);
  files = up_to (t.files + total files_by cs);
  links = up_to (t.links + total links_by cs);
  bytes = up_to (t.bytes + total bytes_by cs);
}

counted_sum : (t : Totals) (cs : List Command) → AreCounts t → counted t cs ≡ summed t cs
unfolding summed
counted_sum t [] c =
    let dirs : t.dirs ≡ up_to (t.dirs + 0) = sym (still t.dirs c.dirs) in
    let files : t.files ≡ up_to (t.files + 0) = sym (still t.files c.files) in
    let links : t.links ≡ up_to (t.links + 0) = sym (still t.links c.links) in
    let bytes : t.bytes ≡ up_to (t.bytes + 0) = sym (still t.bytes c.bytes) in
    λ i. record { dirs = dirs i; files = files i; links = links i; bytes = bytes i }
counted_sum t (d ∷ cs) c =
    let dirs : up_to (up_to (t.dirs + dirs_by d) + total dirs_by cs) ≡ up_to (t.dirs + (dirs_by d + total dirs_by cs)) = one_then t.dirs (dirs_by d) (total dirs_by cs) in
    let files : up_to (up_to (t.files + files_by d) + total files_by cs) ≡ up_to (t.files + (files_by d + total files_by cs)) = one_then t.files (files_by d) (total files_by cs) in
    let links : up_to (up_to (t.links + links_by d) + total links_by cs) ≡ up_to (t.links + (links_by d + total links_by cs)) = one_then t.links (links_by d) (total links_by cs) in
    let bytes : up_to (up_to (t.bytes + bytes_by d) + total bytes_by cs) ≡ up_to (t.bytes + (bytes_by d + total bytes_by cs)) = one_then t.bytes (bytes_by d) (total bytes_by cs) in
    let rest : counted (one_counted t d) cs ≡ summed (one_counted t d) cs = counted_sum (one_counted t d) cs (counts_one t d) in
    let same : summed (one_counted t d) cs ≡ summed t (d ∷ cs) = λ i. record { dirs = dirs i; files = files i; links = links i; bytes = bytes i } in
    rest ∙ same

pub counted_all : (cs : List Command) → counted no_totals cs ≡ totals_of cs
unfolding summed
counted_all cs =
    let dirs : up_to (0 + total dirs_by cs) ≡ up_to (total dirs_by cs) = from_none (total dirs_by cs) in
    let files : up_to (0 + total files_by cs) ≡ up_to (total files_by cs) = from_none (total files_by cs) in
    let links : up_to (0 + total links_by cs) ≡ up_to (total links_by cs) = from_none (total links_by cs) in
    let bytes : up_to (0 + total bytes_by cs) ≡ up_to (total bytes_by cs) = from_none (total bytes_by cs) in
    let same : summed no_totals cs ≡ totals_of cs = λ i. record { dirs = dirs i; files = files i; links = links i; bytes = bytes i } in
    counted_sum no_totals cs (record { dirs = omega arith; files = omega arith; links = omega arith; bytes = omega arith }) ∙ same
