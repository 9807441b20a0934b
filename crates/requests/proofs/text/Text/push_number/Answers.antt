use Rattle.std.proofs.Common.{rules, refl, ap, ◌++◌, List, ℕ, ◌∙◌}
use Rattle.requests.proofs.TextLaws.{written_none, written_more, written_end}
use Rattle.requests.proofs.text.Text.push_number.Goals as goal

pub loop-rest-init : goal.loop-rest-init
loop-rest-init c = written_none c.args.n _ refl (search rules)

pub loop-rest-preserved : goal.loop-rest-preserved
loop-rest-preserved c = search written_more

pub push_text-requires : goal.push_text-requires
push_text-requires c = rw (written_end _ _ _ _ c.loop-rest.invariant (search rules)) c.requires

pub returns : goal.returns
returns c = c.push_text.ensures ∙ ap (λ (x : List ℕ). c.args.self.now ++ x) (written_end _ _ _ _ c.loop-rest.invariant (search rules))
