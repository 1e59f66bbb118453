use Rattle.std.proofs.Common.{List, ℕ, subst}
use Rattle.fs_model.specs.declared.command.Command.TheVariants as command
use Rattle.std.specs.declared.result.Result.TheVariants.{Ok}
use Rattle.copy_row.specs.Reads.{OneRead, SaysPiece}
use Rattle.copy_row.proofs.Served.{reads_none, reads_error, piece_read}
use Rattle.copy_row.proofs.replies.ask_piece.Goals as goal

pub returns-in-Err-clause-reads : goal.returns-in-Err-clause-reads
returns-in-Err-clause-reads g c = reads_none g.A.Asker.asking g.met.A.Asker.lawful {X = List ℕ} c.args.asker.now c.args.tree.now (SaysPiece c.args.from)

pub returns-in-Ok-Content-clause-reads : goal.returns-in-Ok-Content-clause-reads
returns-in-Ok-Content-clause-reads g c =
    piece_read g.A.Asker.asking c.args.asker.now c.ask_reader.new.asker c.in-Ok.path c.args.tree.now c.args.from c.in-Ok-Content.bytes c.in-Ok.ensures
    (subst (λ z. OneRead g.A.Asker.asking c.args.asker.now c.ask_reader.new.asker (command.Read c.in-Ok.path c.args.from 1048576) (Ok z)) c.in-Ok-Content.field-0-is c.in-Ok-Content.ensures.read)

pub returns-clause-reads : goal.returns-clause-reads
returns-clause-reads g c = reads_error g.A.Asker.asking {X = List ℕ} c.args.asker.now c.ask_reader.new.asker (command.Read c.in-Ok.path c.args.from 1048576) c.args.tree.now (SaysPiece c.args.from) c.in-Err-ask_reader.stop c.in-Ok.ensures c.in-Err-ask_reader.ensures.read
