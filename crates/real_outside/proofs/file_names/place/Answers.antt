use Rattle.std.proofs.lemmas.Str.{IsAscii-take, IsAscii-drop}
use Rattle.real_outside.proofs.FileNames.{names_are_text}
use Rattle.real_outside.proofs.file_names.place.Goals as goal

pub text-requires : goal.text-requires
text-requires c = rw (c.split_at.ensures.front, c.to_name-digits.ensures) (IsAscii-take _ 3 (names_are_text c.in-Block.id.0))

pub text-requires-in-Block : goal.text-requires-in-Block
text-requires-in-Block c = rw (c.split_at.ensures.back, c.to_name-digits.ensures) (IsAscii-drop _ 3 (names_are_text c.in-Block.id.0))

pub returns-in-Config-clause-file : goal.returns-in-Config-clause-file
returns-in-Config-clause-file c = rw (c.in-Config.is, ← c.in_ok-folder.ensures) c.new.ensures.file

pub returns-in_ok-push-in-Block-clause-file : goal.returns-in_ok-push-in-Block-clause-file
returns-in_ok-push-in-Block-clause-file c =
    rw (c.in-Block.is, ← c.to_name-digits.ensures, ← c.split_at.ensures.front, ← c.split_at.ensures.back, ← c.text.ensures, ← c.text-in-Block.ensures, ← c.in_ok-folder.ensures, ← c.in_ok-push-in-Block.ensures.ok) c.new-in-Block.ensures.file
