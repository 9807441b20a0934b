use borrow.Author.Rules.{rules}
use Rattle.tables.proofs.RefusalLaws.{refused}
use Rattle.requests.proofs.GrowLaws.{file_unnamed, file_kind, file_lack}
use Rattle.requests.proofs.NamedLaws.{named_parent}
use Rattle.requests.proofs.grow.check_file.Goals as goal

pub returns-in_err-check_state : goal.returns-in_err-check_state
returns-in_err-check_state c = search (file_unnamed, refused, rules)

pub check_kind-requires : goal.check_kind-requires
check_kind-requires c = search (named_parent, c.in_ok-check_state.ensures, rules)

pub returns-in_err-check_kind : goal.returns-in_err-check_kind
returns-in_err-check_kind c = search (file_kind, refused, rules)

pub check_lack-requires : goal.check_lack-requires
check_lack-requires c = search (named_parent, c.in_ok-check_state.ensures, c.in_ok-check_kind.ensures, rules)

pub returns : goal.returns
returns c = search (file_lack, rules)
