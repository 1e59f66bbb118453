use Rattle.fs_model.specs.Tree.{empty_tree}
use Rattle.mount.specs.mount_core.Showing.{ShowsFiles}
use Rattle.session_laws.proofs.Following.{compose}
use Rattle.session_laws.proofs.Refused.{refused_unforged}
use Rattle.session_laws.proofs.law.runs_compose.Goals as goal

pub returns-clause-all : goal.returns-clause-all
returns-clause-all k c first start runs s all = compose ShowsFiles c first start runs s all

pub returns-clause-from_create : goal.returns-clause-from_create
returns-clause-from_create k c file kept id start runs made all = compose ShowsFiles c empty_tree start runs made.0.represents all

pub returns-clause-refused : goal.returns-clause-refused
returns-clause-refused k password kept old new v0 v1 k0 k1 error c stops cause = refused_unforged password kept old new v0 v1 k0 k1 error c stops cause
