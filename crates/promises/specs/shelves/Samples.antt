-- Calls on two fresh stores of 60 and 30 bytes, in which the document's sheet of 25 bytes takes 29, with their answers; and an input for each refusal of the shelf.
use Rattle.std.specs.Prelude.{List, [], ◌∷◌, ◌++◌, map, ℕ, set}
use Rattle.grammar.specs.segment.Desk.{first_sheet}
use Rattle.shelf.specs.declared.Key.{Key}
use Rattle.shelf.specs.Shelf.{shelf_add, shelf_remove, Seen, shelf_lookup}
use Rattle.promises.specs.Samples.{refused_sheets}
use Rattle.promises.specs.shelves.Calls.{Side, Call, Answer}

-- the document's sheet with NID_C c
abbrev sheet_of : ℕ → List ℕ
sheet_of c = set first_sheet 8 c

-- the key of the document's sheet with NID_C c
abbrev keyed : ℕ → Key
keyed c = record { nid_c = c; nid_sp = 0; major = 0; minor = 0 }

-- "With 54 (84 km/h) in place of 50"
abbrev faster : List ℕ → List ℕ
faster s = set s 16 0x54

-- the answer to an addition or a removal
abbrev changed : ℕ → ℕ → ℕ → Answer
changed r place used = record { refusal = r; place = place; used = used; part = [] }

-- the answer to a lookup
abbrev looked : ℕ → List ℕ → Answer
looked r part = record { refusal = r; place = 0; used = 0; part = part }

-- bytes that lie anywhere
abbrev pub lying : List ℕ → Seen
lying s = record { start = (3, 5); bytes = s }

-- fifteen calls
abbrev pub calls : List Call
calls =
    Call.look (keyed 0)
    ∷ Call.add Side.yard (sheet_of 2) ∷ Call.add Side.yard (sheet_of 1)
    -- a third has no room, and the key of the first has
    ∷ Call.add Side.yard (sheet_of 3) ∷ Call.add Side.yard (faster (sheet_of 2))
    ∷ Call.look (keyed 2) ∷ Call.look (keyed 3)
    -- "the yard's store first and the default store second"
    ∷ Call.add Side.standard (sheet_of 2) ∷ Call.look (keyed 2)
    ∷ Call.remove Side.yard (keyed 2) ∷ Call.look (keyed 2) ∷ Call.remove Side.yard (keyed 2)
    -- "freed room is used again"; the sheet's own refusal
    ∷ Call.add Side.yard (sheet_of 3) ∷ Call.look (keyed 3) ∷ Call.add Side.yard (7 ∷ [])
    ∷ []

-- their answers
abbrev pub expected : List Answer
expected =
    looked 17 []
    ∷ changed 0 0 29 ∷ changed 0 0 58
    ∷ changed 8 0 58 ∷ changed 0 0 58
    ∷ looked 0 (faster (sheet_of 2)) ∷ looked 17 []
    ∷ changed 0 0 29 ∷ looked 0 (faster (sheet_of 2))
    ∷ changed 0 0 29 ∷ looked 0 (sheet_of 2) ∷ changed 17 0 29
    ∷ changed 0 0 58 ∷ looked 0 (sheet_of 3) ∷ changed 2 0 58
    ∷ []

-- ---- an input for each refusal

-- 21: a store of no byte, of which one is used. Then each sheet that is refused, 9 for one of no byte, and 8: the document's sheet, in no room
abbrev pub refused_additions : List ℕ
refused_additions = (shelf_add [] 1 first_sheet).answer.refusal ∷ map (λ s. (shelf_add [] 0 s).answer.refusal) (refused_sheets ++ [] ∷ first_sheet ∷ [])

-- 21, and 17 where nothing is kept
abbrev pub refused_removals : List ℕ
refused_removals = (shelf_remove [] 1 (keyed 0)).answer.refusal ∷ (shelf_remove [] 0 (keyed 0)).answer.refusal ∷ []

-- 21 for the default store, and 17 where nothing is kept
abbrev pub refused_lookups : List ℕ
refused_lookups = (shelf_lookup (lying []) 0 (lying []) 1 (keyed 0)).refusal ∷ (shelf_lookup (lying []) 0 (lying []) 0 (keyed 0)).refusal ∷ []
