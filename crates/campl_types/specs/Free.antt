-- The free channel names of a body. A name is free where a command or a header names it, and no command of
-- the body round that place binds it. In a well formed body the free names are exactly those that are held,
-- so at a `fork` they tell which channels go to which body (proofs/FreeNames).
use Rattle.std.specs.Prelude.{Bool, false, not, ◌&&◌, ◌||◌, List, [], ◌∷◌, Some, None}
use Rattle.campl_tree.specs.declared.place.Ident.{Ident}
use Rattle.campl_tree.specs.Plain.Process as b
use Rattle.campl_tree.specs.Plain.Process.{Action, Body, HcaseRows, CaseRows, Branches, Parts}
use Rattle.campl_types.specs.Names.{Name, same_name, is_among}
use Rattle.campl_types.specs.World.{World, names_of}
use Rattle.campl_types.specs.Fits.{Vars}
use Rattle.campl_types.specs.Held.{Held}
use Rattle.campl_types.specs.Headers.{link_names}
use Rattle.campl_types.specs.Linear.{IsDivided, IsWellFormed}

-- Free names

-- the channel that an action names
abbrev pub channel_of : Action → Name
channel_of (b.Put at a x) = x.name
channel_of (b.Get at v x) = x.name
channel_of (b.Hput at k x) = x.name
channel_of (b.Split at x y z) = x.name
channel_of (b.Close at x) = x.name

-- the channels that an action binds in what follows it
abbrev pub channels_bound : Action → List Name
channels_bound (b.Put at a x) = []
channels_bound (b.Get at v x) = []
channels_bound (b.Hput at k x) = []
channels_bound (b.Split at x y z) = y.name ∷ z.name ∷ []
channels_bound (b.Close at x) = []

abbrev mutual
  -- whether a name is free in a body
  pub is_free : Name → Body → Bool
  is_free n (b.Then a rest) = same_name n (channel_of a) || (not (is_among n (channels_bound a)) && is_free n rest)
  is_free n (b.Halt at None) = false
  is_free n (b.Halt at (Some x)) = same_name n x.name
  is_free n (b.Hcase at x rows) = same_name n x.name || is_free_in_rows n rows
  is_free n (b.Fork at x y left z right) =
      same_name n x.name || ((not (same_name n y.name) && is_free n left) || (not (same_name n z.name) && is_free n right))
  is_free n (b.Plug at links parts) = not (is_among n (link_names links)) && is_free_in_parts n parts
  is_free n (b.Race at rows) = is_free_in_branches n rows
  is_free n (b.Case at a rows) = is_free_in_cases n rows
  is_free n (b.Identity at x negated y) = same_name n x || same_name n y.name
  is_free n (b.Call at x args inputs outputs) = is_among n (names_of inputs) || is_among n (names_of outputs)

  -- whether it is free in a row of `hcase`
  pub is_free_in_rows : Name → HcaseRows → Bool
  is_free_in_rows n b.no_hcase_rows = false
  is_free_in_rows n (b.hcase_row_then k body rows) = is_free n body || is_free_in_rows n rows

  -- whether it is free in a branch of `race`, which names its channel
  pub is_free_in_branches : Name → Branches → Bool
  is_free_in_branches n b.no_branches = false
  is_free_in_branches n (b.branch_then x body rows) = same_name n x.name || (is_free n body || is_free_in_branches n rows)

  -- whether it is free in a row of `case`
  pub is_free_in_cases : Name → CaseRows → Bool
  is_free_in_cases n b.no_case_rows = false
  is_free_in_cases n (b.case_row_then p body rows) = is_free n body || is_free_in_cases n rows

  -- whether it stands in the header of a part, or is free in its body; the links are left to the plug
  pub is_free_in_parts : Name → Parts → Bool
  is_free_in_parts n b.no_parts = false
  is_free_in_parts n (b.part_then header body parts) =
      is_among n (names_of header.inputs) || (is_among n (names_of header.outputs) || (is_free n body || is_free_in_parts n parts))

-- Forks

-- a fork is well formed by this division of the other channels
abbrev pub IsDividedBy : (keep : Name → Bool) → World → Vars → Held → (x y : Ident) → (left : Body) → (z : Ident) → (right : Body) → Type 0
IsDividedBy keep w vs held x y left z right =
    IsDivided keep w held x.name y.name z.name (λ h. IsWellFormed w vs h left) (λ h. IsWellFormed w vs h right)

-- by free names: each other channel goes to the first body where it is free there, and to the second otherwise
abbrev pub IsDividedByNames : World → Vars → Held → (x y : Ident) → (left : Body) → (z : Ident) → (right : Body) → Type 0
IsDividedByNames w vs held x y left z right = IsDividedBy (λ c. is_free c left) w vs held x y left z right
