-- Examples that compute: process 0 puts the number that it keeps on channel 0, whose near end it has, and process 1 gets it.
use Rattle.std.proofs.Common.{◌≡◌, refl, ℕ, zero, suc, List, [], ◌∷◌, Option, Some, None}
use Rattle.campl_value.specs.Tree.{Tree, Int, Nil}
use Rattle.std.specs.Prelude.{pos}
use Rattle.campl_value.specs.declared.message.Message.TheVariants.{Word}
use Rattle.campl_meaning.specs.States as k
use Rattle.campl_code.specs.Instructions.{Block, Code}
use Rattle.campl_code.specs.Instructions as i
use Rattle.campl_code_bodies.specs.Kept.{Values}
use Rattle.campl_cells.specs.Parts.{Ends, Runs, Proc, Tip, Parts, near, far, bare}
use Rattle.campl_cells.specs.Wants.{Drawn, Begins, Gone, wanted}
use Rattle.campl_cells.specs.Wants as w
use Rattle.campl_cells.specs.Steps.{change_of, joined_to}

-- int 7; put 0; halt
abbrev putter : Block
putter = record { name = 1 ∷ []; variables = 0; inputs = 0; outputs = 1; code = i.Int (pos 7) ∷ i.Put 0 ∷ i.Halt None ∷ [] }

-- get 0 0; link 1 2
abbrev getter : Block
getter = record { name = 2 ∷ []; variables = 0; inputs = 1; outputs = 0; code = i.Get 0 0 ∷ i.Link 1 2 ∷ [] }

abbrev code : Code
code = record { functions = []; processes = putter ∷ getter ∷ []; decisions = [] }

abbrev only : ℕ → Ends
only e zero = Some e
only e (suc n) = None

abbrev seven : Tree
seven = Int (pos 7)

abbrev first : Proc
first = record { life = Runs (record { block = 0; ends = only (near 0); kept = Values 1 [] (seven ∷ []) }); parent = 0; born = 0; steps = 4 }

abbrev second : Proc
second = record { life = Runs (record { block = 1; ends = only (far 0); kept = Values 0 (Nil ∷ []) [] }); parent = 0; born = 3; steps = 0 }

abbrev parts : List (Option Tip) → Parts
parts tips = record { process = at (Some first ∷ Some second ∷ []); tip = at tips }
  where
    at : {A : Type 0} → List (Option A) → ℕ → Option A
    at [] n = None
    at (x ∷ xs) zero = x
    at (x ∷ xs) (suc n) = at xs n

abbrev drawn : Drawn
drawn = record { child = 2; channel = 1; channel2 = 2 }

-- nothing lies at the ends yet
abbrev before : Parts
before = parts (Some (joined_to 1) ∷ Some (joined_to 0) ∷ [])

putter_wants : wanted code drawn first.life 0
    ≡ w.sends k.Put 0 (Word seven) (Begins (record { block = 0; at = 2; vars = []; ends = only 0 }))
putter_wants = refl

-- the message comes to lie at the far end
puts : change_of code drawn before 0 first 0 ≡ Some (record {
  entry = record { process = 0; kind = k.Put; weight = 1; end = Some 0; second = None; message = Some (Word seven); child = None; channel = None; channel2 = None };
  next = Begins (record { block = 0; at = 2; vars = []; ends = only 0 });
  child = None;
  ends = (1, record { peer = Some 0; inbox = Word seven ∷ [] }) ∷ [];
})
puts = refl

-- before, the getter waits
waits : change_of code drawn before 1 second 0 ≡ None
waits = refl

-- then it takes the message off, and has it in its variable
gets : change_of code drawn (parts (Some (joined_to 1) ∷ Some (record { peer = Some 0; inbox = Word seven ∷ [] }) ∷ [])) 1 second 0 ≡ Some (record {
  entry = record { process = 1; kind = k.Get; weight = 1; end = Some 1; second = None; message = Some (Word seven); child = None; channel = None; channel2 = None };
  next = Begins (record { block = 1; at = 1; vars = seven ∷ []; ends = only 1 });
  child = None;
  ends = (1, joined_to 0) ∷ [];
})
gets = refl

-- an identity of the two channels 0 and 1: their other ends 0 and 3 become peers, and what lay at the identity's ends goes on to them
abbrev linker : Proc
linker = record { life = Runs (record { block = 1; ends = two; kept = Values 1 [] [] }); parent = 0; born = 3; steps = 1 }
  where
    two : Ends
    two zero = None
    two (suc zero) = Some 1
    two (suc (suc zero)) = Some 2
    two (suc (suc (suc n))) = None

links : change_of code drawn (parts (Some (joined_to 1) ∷ Some (record { peer = Some 0; inbox = Word seven ∷ [] }) ∷ Some (joined_to 3) ∷ Some (joined_to 2) ∷ [])) 1 linker 0 ≡ Some (record {
  entry = record { process = 1; kind = k.Link; weight = 1; end = Some 1; second = Some 2; message = None; child = None; channel = None; channel2 = None };
  next = Gone;
  child = None;
  ends = (3, record { peer = Some 0; inbox = Word seven ∷ [] }) ∷ (0, record { peer = Some 3; inbox = [] }) ∷ (2, bare) ∷ (1, bare) ∷ [];
})
links = refl
