-- A board for each refusal, and changes that are refused and made.
use Rattle.std.specs.Prelude.{false, List, [], ◌∷◌, ◌++◌, map, ℕ, replicate}
use Rattle.grammar.specs.segment.Desk.{first_packet}
use Rattle.speed.specs.declared.Train.{Train}
use Rattle.speed.specs.Desk.{train_of, plain}
use Rattle.promises.specs.Samples.{refused_packets}
use Rattle.fleet.specs.declared.Board.{Board}
use Rattle.fleet.specs.declared.Card.{Card}
use Rattle.fleet.specs.Fleet.{board, Moved, moved}

-- a train at a location
abbrev pub at : Train → ℕ → Card
at t x = record { train = t; location = x }

-- 20: "an empty or longer list", with a packet of no byte; then each refused packet, with a train of no length past the end;
-- then the document's packet, whose L_SP is 1, with a good card in front: 10, and 11 before a later card's 10
abbrev pub boards : List Board
boards =
    board [] [] ∷ board [] (replicate 65 (at plain 0))
    ∷ map (λ (s : List ℕ). board s (at (train_of 0 80 false false false) 1 ∷ [])) refused_packets
    ++ board first_packet (at plain 0 ∷ at (train_of 0 80 false false false) 1 ∷ [])
    ∷ board first_packet (at plain 0 ∷ at plain 1 ∷ at (train_of 0 80 false false false) 0 ∷ []) ∷ []

-- "20 for an empty or longer list or a card number past it", and a change that is made
abbrev pub moves : List Moved
moves = moved [] 0 5 ∷ moved (replicate 65 (at plain 0)) 0 5 ∷ moved (at plain 0 ∷ at plain 1 ∷ []) 2 5 ∷ moved (at plain 0 ∷ at plain 1 ∷ []) 1 5 ∷ []
