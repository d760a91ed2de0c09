-- The calls on two fresh stores and each refusal of the shelf, by one table each.
use mathlib.Core.Path.{◌≡◌, refl}
use lib.ListN.{replicate}
use Rattle.numbers.specs.Numbers.{number_of, groups_in}
use Rattle.kinds.specs.Tables.{place}
use Rattle.kinds.specs.Kinds.{digits}
use Rattle.grammar.specs.segment.Segment.{entries, changes, lists, body, fields, sheet_fields}
use Rattle.grammar.specs.segment.Judgement.{from_sheet, to_sheet}
use Rattle.shelf.specs.Shelf.{sheet_key, sheets_in, shelf_add, shelf_remove, shelf_lookup}
use Rattle.promises.specs.shelves.Refused.{add_refusals, key_refusals}
use Rattle.promises.specs.shelves.Calls.{fresh, answers}
use Rattle.promises.specs.shelves.Samples.{lying, calls, expected, refused_additions, refused_removals, refused_lookups}

pub shelf_calls : answers (fresh (lying (replicate 60 0xAA))) (fresh (lying (replicate 30 0xBB))) calls ≡ expected
unfolding sheet_key sheets_in shelf_add shelf_remove shelf_lookup from_sheet sheet_fields fields body lists changes entries digits number_of groups_in place
shelf_calls = refl

pub add_reached : refused_additions ≡ add_refusals
unfolding sheet_key sheets_in shelf_add from_sheet to_sheet sheet_fields fields body lists changes entries digits number_of groups_in place
add_reached = refl

pub remove_reached : refused_removals ≡ key_refusals
unfolding sheets_in shelf_remove
remove_reached = refl

pub look_reached : refused_lookups ≡ key_refusals
unfolding sheets_in shelf_lookup
look_reached = refl
