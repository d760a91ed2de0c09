-- `speed_element::profile::next` meets its contract.
use native.Mathlib.Omega.{arith}
use Rattle.speed_element.proofs.Reading.{location_stands, next_element}
use Rattle.speed_element.proofs.profile.next.Goals as goal

pub location-location-requires : goal.location-location-requires
location-location-requires g c =
    let a = c.args in
    location_stands (g.P.Profile.reads a.s.now) a.lsp a.«open».start a.left (omega (arith, c.if-left-eq0.false)) c.requires

pub element-e-requires : goal.element-e-requires
element-e-requires g c =
    let a = c.args in
    next_element (g.P.Profile.reads a.s.now) a.lsp a.«open».start a.left (omega (arith, c.if-left-eq0.false)) c.requires (c.location-location.ensures a.«open».start a.lsp)
