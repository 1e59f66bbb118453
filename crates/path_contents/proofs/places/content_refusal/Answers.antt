use Rattle.std.proofs.Common.{ap}
use Rattle.fs_model.specs.Step.{on_file}
use Rattle.path_contents.proofs.places.content_refusal.Goals as goal

pub returns-in-Directory : goal.returns-in-Directory
returns-in-Directory c = λ t s. ap (λ k. on_file t k s) c.in-Directory.is

pub returns-in-Link : goal.returns-in-Link
returns-in-Link c = λ t s. ap (λ k. on_file t k s) c.in-Link.is
