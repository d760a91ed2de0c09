use Rattle.std.proofs.lemmas.Slice.Zip.{Zip-more, either_empty_from_Zip}
use Rattle.packet_fields.proofs.row.Rows.{fits_some, fits_more, row_off, row_on, row_none}
use Rattle.packet_fields.proofs.row.row.Goals as goal

pub plain-requires : goal.plain-requires
plain-requires c =
    let z = Zip-more _ c.next.new.self _ _ c.in-Some.is c.next.ensures.steps in
    let i = c.loop-width.invariant in
    let w = fits_some i.1 z.0 z.1 in
    (i.0.stands, rw c.up_to.ensures (record { some = w.some; most = w.most }))

pub returns-in-Err : goal.returns-in-Err
returns-in-Err c =
    let z = Zip-more _ c.next.new.self _ _ c.in-Some.is c.next.ensures.steps in
    row_off c.loop-width.invariant.0 z.0 z.1 c.up_to.ensures (rw c.in-Err.is at c.plain.ensures)

pub loop-width-preserved : goal.loop-width-preserved
loop-width-preserved c =
    let z = Zip-more _ c.next.new.self _ _ c.in-Some.is c.next.ensures.steps in
    let i = c.loop-width.invariant in
    (row_on i.0 z.0 z.1 c.up_to.ensures (rw c.in-Ok.is at c.plain.ensures), fits_more i.1 z.0 z.1)

pub returns : goal.returns
returns c = row_none c.loop-width.invariant.0 (either_empty_from_Zip _ c.next.new.self _ c.in-None.is c.next.ensures.steps)
