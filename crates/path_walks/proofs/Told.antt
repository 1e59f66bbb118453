-- Replies of commands that leave the tree, and steps that are equal.
use Rattle.std.proofs.Common.{◌≡◌, Ok, Err, refl, sym, subst}
use Rattle.std.specs.Prelude.{Result}
use Rattle.block_id.specs.declared.fail.Fail.{Fail}
use Rattle.dir_blob.specs.store_outcome.Meanings.{Meanings}
use Rattle.dir_blob.specs.store_outcome.Outcome.{Outcome, passed, answered as answered_by}
use Rattle.dir_blob.specs.blob_api.BlobMap.{Id, BlobMap, BlobHoldings}
use Rattle.fs_model.specs.declared.reply.Reply.{Reply}
use Rattle.fs_model.specs.Tree.{Path, Tree}
use Rattle.fs_model.specs.declared.reply.Reply.TheVariants.{Done}
use Rattle.fs_model.specs.Step.{Stepped, answered, done}
use Rattle.path_walks.specs.Shows.{ShowsBy}
use Rattle.path_walks.specs.Showing.{IsShownBy, Performed}
use Rattle.path_walks.specs.Replies.{replied}

-- the tree stays, and this is the reply
pub stays : {S : Type 0} {H : BlobHoldings S} {root : Id} (m : BlobMap) (t : Tree) (ids : Path → Id) → ShowsBy m root t ids → (b : S) → H.stands_for b m → (s : Stepped) (r : Reply) → s ≡ answered t r → Performed H b root s r
stays {H = H} {root = root} m t ids shows b stands s r e = subst (λ z. Performed H b root z r) (sym e) (record { told = refl; map = m; stands = stands; ids = ids; shows = shows })

-- a step under another name
pub told_as : {S : Type 0} {H : BlobHoldings S} {b : S} {root : Id} (s s2 : Stepped) (r : Reply) → s2 ≡ s → Performed H b root s r → Performed H b root s2 r
told_as {H = H} {b = b} {root = root} s s2 r e p = subst (λ z. Performed H b root z r) (sym e) p

-- the tree is the next one, and the blobs show it
pub shown_done : {S : Type 0} {H : BlobHoldings S} {b : S} {root : Id} (t : Tree) (ids : Path → Id) → IsShownBy H b root t ids → Performed H b root (done t) Done
shown_done t ids p = record { told = refl; map = p.map; stands = p.stands; ids = ids; shows = p.shows }

-- a change that is answered when it is made
pub made : {S : Type 0} {M : Meanings S} {T N : Type 0} {a b : S} {P : N → T → Type 0} {Q : N → Reply → Type 0} {r : Result T Fail} {reply : Result Reply Fail} → reply ≡ replied r → Outcome M N a b r P → ((n : N) (y : T) → P n y → Q n Done) → Outcome M N a b reply Q
made {M = M} {N = N} {a = a} {b = b} {Q = Q} {r = Ok y} e o f = subst (λ z. Outcome M N a b z Q) (sym e) (answered_by o (λ n h. f n y h))
made {M = M} {N = N} {a = a} {b = b} {Q = Q} {r = Err fail} e o f = subst (λ z. Outcome M N a b z Q) (sym e) (passed o)
