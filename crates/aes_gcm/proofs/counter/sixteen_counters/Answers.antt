use Rattle.std.proofs.Common.{◌≡◌, refl, ap, ◌∙◌}
use Rattle.aes_gcm.specs.Gctr.{counter_block, inc32}
use Rattle.aes_gcm.proofs.Counters.{below_sixteen}
use Rattle.aes_gcm.proofs.counter.sixteen_counters.Goals as goal

pub returns : goal.returns
unfolding counter_block
returns c =
    let first = c.args.first in
    let e1 : c.inc32-second.result ≡ counter_block first 1 = c.inc32-second.ensures in
    let e2 : c.inc32-third.result ≡ counter_block first 2 = c.inc32-third.ensures ∙ ap inc32 e1 in
    let e3 : c.inc32-fourth.result ≡ counter_block first 3 = c.inc32-fourth.ensures ∙ ap inc32 e2 in
    let e4 : c.inc32-fifth.result ≡ counter_block first 4 = c.inc32-fifth.ensures ∙ ap inc32 e3 in
    let e5 : c.inc32-sixth.result ≡ counter_block first 5 = c.inc32-sixth.ensures ∙ ap inc32 e4 in
    let e6 : c.inc32-seventh.result ≡ counter_block first 6 = c.inc32-seventh.ensures ∙ ap inc32 e5 in
    let e7 : c.inc32-eighth.result ≡ counter_block first 7 = c.inc32-eighth.ensures ∙ ap inc32 e6 in
    let e8 : c.inc32-ninth.result ≡ counter_block first 8 = c.inc32-ninth.ensures ∙ ap inc32 e7 in
    let e9 : c.inc32-tenth.result ≡ counter_block first 9 = c.inc32-tenth.ensures ∙ ap inc32 e8 in
    let e10 : c.inc32-eleventh.result ≡ counter_block first 10 = c.inc32-eleventh.ensures ∙ ap inc32 e9 in
    let e11 : c.inc32-twelfth.result ≡ counter_block first 11 = c.inc32-twelfth.ensures ∙ ap inc32 e10 in
    let e12 : c.inc32-thirteenth.result ≡ counter_block first 12 = c.inc32-thirteenth.ensures ∙ ap inc32 e11 in
    let e13 : c.inc32-fourteenth.result ≡ counter_block first 13 = c.inc32-fourteenth.ensures ∙ ap inc32 e12 in
    let e14 : c.inc32-fifteenth.result ≡ counter_block first 14 = c.inc32-fifteenth.ensures ∙ ap inc32 e13 in
    let e15 : c.inc32-sixteenth.result ≡ counter_block first 15 = c.inc32-sixteenth.ensures ∙ ap inc32 e14 in
    below_sixteen _ refl e1 e2 e3 e4 e5 e6 e7 e8 e9 e10 e11 e12 e13 e14 e15
