use Rattle.std.proofs.Common.{◌≡◌, ◌+◌, ◌-◌, length, get_or, take, T, map, Some, sym, ◌∙◌, ap, subst, arith}
use Rattle.std.specs.Prelude.{vec_len}
use Rattle.std.proofs.lemmas.List.{take_all}
use Rattle.std.proofs.Math.ListN.{drop_of_length-le}
use Rattle.std.specs.FinMap.{find, is_sorted}
use Rattle.fs_model.specs.Tree.{path_cmp}
use Rattle.plain_rows.specs.Rows.{folder_entry}
use Rattle.plain_rows.specs.Moves.{paired}
use Rattle.plain_rows.proofs.PairLemmas.{length-paired, found_more, sorted_more, popped, full_moved, full-last}
use Rattle.plain_rows.specs.Formed.{AllFull}
use Rattle.plain_rows.proofs.rename.rebuild.Goals as goal

pub loop-folder-init : goal.loop-folder-init
loop-folder-init c =
    let ls = c.args.folders.now.items in
    let ps = c.args.paths.items in
    let n = vec_len c.args.folders.now in
    let lines_len : n ≡ length ls = omega (arith, c.args.folders.now.ok) in
    let paths_len : n ≡ length ps = let same = c.requires.same in omega (arith, c.args.paths.ok) in
    let size : length (paired ps ls) ≡ length ls = length-paired ps ls (omega arith) in
    let next_len : vec_len c.args.next ≡ 0 = let none = ap length c.requires.empty in omega (arith, c.args.next.ok) in
    record {
      same = c.requires.same;
      in_range = omega arith;
      folders = sym (take_all n ls (omega arith));
      paths = sym (take_all n ps (omega arith));
      found = λ r. ap (λ xs. find path_cmp r (map folder_entry xs)) c.requires.empty ∙ sym (ap (find path_cmp r) (drop_of_length-le (paired ps ls) (omega arith)));
      sorted = subst (λ xs. T (is_sorted path_cmp (map folder_entry xs))) (sym c.requires.empty) tt;
      all_full = c.requires.full;
      full = subst AllFull (sym c.requires.empty) tt;
      room = let room = c.requires.room in omega arith;
    }

pub loop-folder-preserved : goal.loop-folder-preserved
loop-folder-preserved c =
    let inv = c.loop-folder.invariant in
    let ls = c.args.folders.now.items in
    let ps = c.args.paths.items in
    let n = vec_len c.loop-folder.folders in
    let k = vec_len c.pop.new.self in
    let lines_len : vec_len c.args.folders.now ≡ length ls = omega (arith, c.args.folders.now.ok) in
    let paths_len : vec_len c.args.paths ≡ length ps = omega (arith, c.args.paths.ok) in
    let whole = c.requires.same in
    let same = inv.same in
    let range = inv.in_range in
    let fewer : n ≡ k + 1 = let h = c.in-Some.ensures.len in omega arith in
    let fewer_paths : vec_len c.pop-in-Some.new.self + 1 ≡ vec_len c.loop-folder.paths = let h = c.in-Some-pop.ensures.len in omega arith in
    let l = popped ls c.loop-folder.folders.items c.pop.new.self.items n k c.in-Some.folder inv.folders fewer (omega arith) c.in-Some.ensures.rest (c.in-Some.ensures.value c.in-Some.folder (omega arith)) in
    let p = popped ps c.loop-folder.paths.items c.pop-in-Some.new.self.items n k c.in-Some-pop.path inv.paths fewer (omega arith)
    (c.in-Some-pop.ensures.rest ∙ ap (λ j. take (j - 1) c.loop-folder.paths.items) same)
    (c.in-Some-pop.ensures.value c.in-Some-pop.path (omega arith) ∙ ap (λ j. Some (get_or c.loop-folder.paths.items (j - 1) c.in-Some-pop.path)) same) in
    record {
      same = omega arith;
      in_range = omega arith;
      folders = l.0;
      paths = p.0;
      found = found_more c.loop-folder.next.items c.put_folder.new.folders.items ps ls k n c.in-Some-pop.path c.in-Some.folder c.with_path.result fewer (omega arith) (omega arith) p.1 l.1 c.with_path.ensures.path c.with_path.ensures.items c.put_folder.ensures.entries inv.found;
      sorted = sorted_more c.loop-folder.next.items c.put_folder.new.folders.items c.with_path.result c.put_folder.ensures.entries inv.sorted;
      all_full = (full-last c.pop.new.self.items c.in-Some.folder (subst AllFull c.in-Some.ensures.items inv.all_full)).0;
      full = c.put_folder.ensures.full;
      room = let room = inv.room in let len = c.put_folder.ensures.len in let capacity = c.put_folder.ensures.capacity in omega arith;
    }

pub put_folder-requires-clause-this : goal.put_folder-requires-clause-this
put_folder-requires-clause-this c = full_moved c.in-Some.folder.value c.with_path.result.value c.with_path.ensures.items c.with_path.ensures.size (full-last c.pop.new.self.items c.in-Some.folder (subst AllFull c.in-Some.ensures.items c.loop-folder.invariant.all_full)).1
