-- The command of the options is one of those of which `clap` says all.
use Rattle.std.proofs.Common.{◌≡◌, true, refl}
use Rattle.clap.specs.Words.{is_simple, is_simple_and_free}
use Rattle.program_words.specs.CreateCommand.{create_app}

pub create_app_is_simple : is_simple create_app ≡ true
unfolding create_app
create_app_is_simple = refl

pub create_app_is_free : is_simple_and_free create_app ≡ true
unfolding create_app
create_app_is_free = refl
