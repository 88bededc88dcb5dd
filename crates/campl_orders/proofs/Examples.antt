-- Worked command lines.
use Rattle.std.proofs.Common.{◌≡◌, ℕ, List, [], ◌∷◌, Option, Some, None, refl, codes}
use Rattle.campl_orders.specs.Orders.{PlainOrder, IsOrder, run, check, code, generate, migrate}
use Rattle.campl_orders.specs.Reading.{order_of}
use Rattle.campl_orders.proofs.Agreement.{computes-order, order-computes}

abbrev file : List ℕ
file = codes "bank.campl"

-- ---- every command

plain : order_of (codes "run" ∷ (file ∷ [])) ≡ Some (run file None 100000 4)
plain = refl

options : order_of (codes "run" ∷ (codes "--workers" ∷ (codes "16" ∷ (file ∷ (codes "--script=day" ∷ (codes "--steps" ∷ (codes "7" ∷ []))))))) ≡ Some (run file (Some (codes "day")) 7 16)
options = refl

checked : order_of (codes "check" ∷ (file ∷ [])) ≡ Some (check file)
checked = refl

coded : order_of (codes "code" ∷ (file ∷ [])) ≡ Some (code file)
coded = refl

generated : order_of (codes "generate" ∷ (codes "1000" ∷ (codes "--workers" ∷ (codes "8" ∷ [])))) ≡ Some (generate 1000 8)
generated = refl

migrated : order_of (codes "migrate" ∷ (file ∷ [])) ≡ Some (migrate file)
migrated = refl

-- ---- no order

no-words : order_of [] ≡ None
no-words = refl

no-file : order_of (codes "run" ∷ []) ≡ None
no-file = refl

two-files : order_of (codes "run" ∷ (file ∷ (file ∷ []))) ≡ None
two-files = refl

another-command : order_of (codes "walk" ∷ (file ∷ [])) ≡ None
another-command = refl

no-stages : order_of (codes "generate" ∷ (codes "0" ∷ [])) ≡ None
no-stages = refl

empty-file : order_of (codes "check" ∷ ([] ∷ [])) ≡ None
empty-file = refl

hyphen-alone : order_of (codes "check" ∷ (codes "-" ∷ [])) ≡ None
hyphen-alone = refl

-- an option that the command doesn't have
steps-of-check : order_of (codes "check" ∷ (file ∷ (codes "--steps=5" ∷ []))) ≡ None
steps-of-check = refl

script-of-generate : order_of (codes "generate" ∷ (codes "5" ∷ (codes "--script=day" ∷ []))) ≡ None
script-of-generate = refl

unknown-option : order_of (codes "run" ∷ (file ∷ (codes "--speed=5" ∷ []))) ≡ None
unknown-option = refl

-- ---- options

twice : order_of (codes "run" ∷ (file ∷ (codes "--steps=5" ∷ (codes "--steps" ∷ (codes "5" ∷ []))))) ≡ None
twice = refl

script-twice : order_of (codes "run" ∷ (file ∷ (codes "--script=day" ∷ (codes "--script=day" ∷ [])))) ≡ None
script-twice = refl

workers-twice : order_of (codes "run" ∷ (codes "--workers" ∷ (codes "2" ∷ (codes "--workers=2" ∷ (file ∷ []))))) ≡ None
workers-twice = refl

no-value : order_of (codes "run" ∷ (file ∷ (codes "--steps" ∷ []))) ≡ None
no-value = refl

empty-value : order_of (codes "run" ∷ (file ∷ (codes "--steps=" ∷ []))) ≡ None
empty-value = refl

option-as-value : order_of (codes "run" ∷ (file ∷ (codes "--script" ∷ (codes "--steps=5" ∷ [])))) ≡ None
option-as-value = refl

-- the value goes on behind its first equals sign
two-equals-signs : order_of (codes "run" ∷ (file ∷ (codes "--script=a=b" ∷ []))) ≡ Some (run file (Some (codes "a=b")) 100000 4)
two-equals-signs = refl

-- a file may have one
file-with-equals : order_of (codes "check" ∷ (codes "a=b" ∷ [])) ≡ Some (check (codes "a=b"))
file-with-equals = refl

-- ---- behind `--`

behind : order_of (codes "run" ∷ (codes "--steps=5" ∷ (codes "--" ∷ (file ∷ [])))) ≡ Some (run file None 5 4)
behind = refl

nothing-behind : order_of (codes "run" ∷ (file ∷ (codes "--" ∷ []))) ≡ Some (run file None 100000 4)
nothing-behind = refl

option-behind : order_of (codes "run" ∷ (file ∷ (codes "--" ∷ (codes "--steps=5" ∷ [])))) ≡ None
option-behind = refl

-- ---- numbers

abbrev steps : List ℕ → Option PlainOrder
steps number = order_of (codes "run" ∷ (file ∷ (codes "--steps" ∷ (number ∷ []))))

most-steps : steps (codes "1000000") ≡ Some (run file None 1000000 4)
most-steps = refl

too-many-steps : steps (codes "1000001") ≡ None
too-many-steps = refl

no-steps : steps (codes "0") ≡ Some (run file None 0 4)
no-steps = refl

twenty-digits : steps (codes "00000000000000000005") ≡ Some (run file None 5 4)
twenty-digits = refl

twenty-one-digits : steps (codes "000000000000000000005") ≡ None
twenty-one-digits = refl

large : steps (codes "99999999999999999999") ≡ None
large = refl

signed : steps (codes "+5") ≡ None
signed = refl

spaced : steps (codes "5 ") ≡ None
spaced = refl

no-workers : order_of (codes "run" ∷ (file ∷ (codes "--workers=0" ∷ []))) ≡ None
no-workers = refl

too-many-workers : order_of (codes "run" ∷ (file ∷ (codes "--workers=17" ∷ []))) ≡ None
too-many-workers = refl

most-stages : order_of (codes "generate" ∷ (codes "10000" ∷ [])) ≡ Some (generate 10000 4)
most-stages = refl

too-many-stages : order_of (codes "generate" ∷ (codes "10001" ∷ [])) ≡ None
too-many-stages = refl

-- ---- the same of the relation

is-run : IsOrder (codes "run" ∷ (file ∷ [])) (run file None 100000 4)
is-run = computes-order (codes "run" ∷ (file ∷ [])) (run file None 100000 4) plain

is-none : (order : PlainOrder) → ¬ (IsOrder (codes "run" ∷ (file ∷ (codes "--steps=5" ∷ (codes "--steps" ∷ (codes "5" ∷ []))))) order)
is-none order d = let some : None ≡ Some order = order-computes _ order d in let no : ⊥ = cc in no
