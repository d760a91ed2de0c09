-- The samples of the listing, and the lines of three refusals.
use mathlib.Core.Path.{◌≡◌, refl}
use mathlib.Core.List.{[]}
use lib.ListN.{take}
use Rattle.bits.specs.Bits.{field_at}
use Rattle.kinds.specs.Kinds.{digits}
use Rattle.grammar.specs.segment.Segment.{entries, changes, lists, body, fields, sheet_fields}
use Rattle.grammar.specs.segment.Judgement.{from_packet}
use Rattle.grammar.specs.segment.Desk.{first_packet, counting}
use Rattle.text.specs.words.Words.{ascii, decimal}
use Rattle.text.specs.Listing.{listing_of}
use Rattle.text.specs.Desk.{first_listing, named_packet, named_listing}

-- the document's packet gives the document's two lines
pub desk_listing : listing_of first_packet ≡ first_listing
unfolding field_at digits entries changes lists body fields sheet_fields from_packet decimal listing_of
desk_listing = refl

-- each number of a listing is the number of its own field: in this sample the numbers of the segment all differ, and the numbers of each element from the next one's
pub desk_names : listing_of named_packet ≡ named_listing
unfolding field_at digits entries changes lists body fields sheet_fields from_packet decimal listing_of
desk_names = refl

-- "as "REFUSED n" is": the packet with a body of one bit more, the packet without its last byte, and the empty packet
pub desk_refused : (listing_of (counting 0xBA first_packet) ≡ ascii "REFUSED 13 AT 305\n") × (listing_of (take 38 first_packet) ≡ ascii "REFUSED 3 AT 0\n")
    × (listing_of [] ≡ ascii "REFUSED 1 AT 0\n")
unfolding field_at digits entries changes lists body fields sheet_fields from_packet decimal listing_of
desk_refused = (refl, refl, refl)
