-- `speed_element::profile::passed` meets its contract.
use Rattle.speed_element.proofs.Reading.{first_changes, first_profile, head_readable, head_passed}
use Rattle.speed_element.proofs.profile.passed.Goals as goal

pub first-first-requires : goal.first-first-requires
first-first-requires g c = head_readable (g.P.Profile.reads c.args.s.now) c.requires

pub changes-requires : goal.changes-requires
changes-requires g c =
    let R = g.P.Profile.reads c.args.s.now in
    first_changes R c.args.head.lsp c.first-first.ensures (head_readable R c.requires)

pub returns : goal.returns
returns g c =
    let a = c.args in
    let R = g.P.Profile.reads a.s.now in
    head_passed R c.requires (first_profile R a.head.lsp c.first-first.ensures c.changes.ensures)
