use Rattle.std.proofs.Common.{sym, ◌∙◌, rules, ◌≡◌, arith}
use Rattle.tables.specs.Views.{view_of}
use Rattle.allocation.specs.Headers.{fitting, lowest_fitting}
use Rattle.allocation.proofs.FindLaws.{search_hit, search_end}
use Rattle.allocation.proofs.header.begun_place.Goals as goal

pub returns-in-Some : goal.returns-in-Some
unfolding lowest_fitting
returns-in-Some c =
    let l = c.loop-z in
    let e = search_hit (fitting (view_of c.args.b.now.places c.args.b.now.raw.now) c.args.n) 2 c.args.b.now.places.zones l.z (search rules) (search rules) l.invariant (search rules) c.in-Some.ensures.0 in
    rw (sym e) (search rules, c.in-Some.ensures.1)

pub returns : goal.returns
unfolding lowest_fitting
returns c =
    let l = c.loop-z in
    let e : l.z ≡ c.args.b.now.places.zones = omega arith in
    sym (search_end (fitting (view_of c.args.b.now.places c.args.b.now.raw.now) c.args.n) 2 c.args.b.now.places.zones l.z (search rules) (search rules) l.invariant (omega arith)) ∙ e
