use Rattle.std.specs.declared.option.Option.TheVariants.{Some}
use Rattle.mount_serving.proofs.serving.serve.Given as goal

abbrev pub ghosts-serve_since : goal.ghosts-serve_since
ghosts-serve_since g a = record { start = Some a.host }
