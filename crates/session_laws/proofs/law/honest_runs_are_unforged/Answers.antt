use Rattle.mount.specs.mount_core.Showing.{ShowsFiles}
use Rattle.session_laws.proofs.Honest.{one_opens_only, one_unforged, all_unforged, one_calm, all_calm}
use Rattle.session_laws.proofs.law.honest_runs_are_unforged.Goals as goal

pub returns-clause-only : goal.returns-clause-only
returns-clause-only k settings run honest = one_opens_only settings run honest

pub returns-clause-one : goal.returns-clause-one
returns-clause-one k settings tree run is stands honest = one_unforged ShowsFiles settings tree run is stands honest

pub returns-clause-all : goal.returns-clause-all
returns-clause-all k settings first start runs s all = all_unforged ShowsFiles settings first start runs s all

pub returns-clause-calm : goal.returns-clause-calm
returns-clause-calm k settings tree run is stands honest = one_calm ShowsFiles settings tree run is stands honest

pub returns-clause-all_calm : goal.returns-clause-all_calm
returns-clause-all_calm k settings first start runs s all = all_calm ShowsFiles settings first start runs s all
