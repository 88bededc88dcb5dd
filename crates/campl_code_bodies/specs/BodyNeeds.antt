-- What a process needs so that the generated code stands for it.
use Rattle.std.specs.Prelude.{◌≡◌, ℕ, zero, suc, ◌+◌, ◌<◌, ◌≤◌, true, not, List, [], ◌∷◌, Some, None, length}
use Rattle.campl_tree.specs.declared.place.Ident.{Ident}
use Rattle.campl_tree.specs.Plain.Process as b
use Rattle.campl_tree.specs.Plain.Process.{Body, HcaseRows, Branches, CaseRows, Parts, Link, Header}
use Rattle.campl_tree.specs.Plain.Decl.{ProcessDecl}
use Rattle.campl_types.specs.Names.{Name, found}
use Rattle.campl_types.specs.World.{World, process_named}
use Rattle.campl_types.specs.Matching.{number_of}
use Rattle.campl_types.specs.Patterns.{bound_in}
use Rattle.campl_types.specs.Free.{is_free}
use Rattle.campl_types.specs.Linear.{receives_on}
use Rattle.campl_peel.specs.Numbered.{last_first}
use Rattle.campl_peel.specs.Plugging.{stands_in, links_to, without_link}
use Rattle.campl_peel.specs.Terms.{those}
use Rattle.campl_types.specs.Matching.{row_picked}
use Rattle.campl_code.specs.Numbers.{Numbers, numbered, names}
use Rattle.campl_code.specs.Stands.{count}
use Rattle.campl_code.specs.Needs.{IsKnown, AreKnown}
use Rattle.campl_code_bodies.specs.Bodies.{Channels, without, binds, has_two, parameter_numbers}
use Rattle.campl_code_bodies.specs.BodyCode.{count_hcase}
use Rattle.campl_code_bodies.specs.SourceCode.{first_channels}

-- What a body needs, as far as n commands deep

abbrev pub IsHeld : Name → Channels → Type 0
IsHeld x cs = (n : ℕ) × (found x cs ≡ Some n)

abbrev pub AreHeld : List Ident → Channels → Type 0
AreHeld [] cs = Unit {0}
AreHeld (x ∷ xs) cs = IsHeld x.name cs × AreHeld xs cs

abbrev pub Need : Type 1
Need = Body → (free : ℕ) → Numbers → (next : ℕ) → Channels → Type 0

-- each row's constructor has a number of its own
abbrev pub HcaseNeeds : World → Need → ℕ → HcaseRows → (free : ℕ) → Numbers → (next : ℕ) → Channels → Type 0
HcaseNeeds w need most b.no_hcase_rows free ns next cs = Unit {0}
HcaseNeeds w need most (b.hcase_row_then k body rows) free ns next cs =
    (m : ℕ) × (number_of w k.name ≡ Some m) × (m < most) × (row_picked w m rows ≡ None) × need body free ns next cs × HcaseNeeds w need most rows free ns next cs

abbrev pub RaceNeeds : Need → Branches → (free : ℕ) → Numbers → (next : ℕ) → Channels → Type 0
RaceNeeds need b.no_branches free ns next cs = Unit {0}
RaceNeeds need (b.branch_then x body rows) free ns next cs =
    IsHeld x.name cs × (receives_on x.name body ≡ true) × need body free ns next cs × RaceNeeds need rows free ns next cs

abbrev pub CaseNeeds : Need → CaseRows → (free : ℕ) → Numbers → (next : ℕ) → Channels → Type 0
CaseNeeds need b.no_case_rows free ns next cs = Unit {0}
CaseNeeds need (b.case_row_then q body rows) free ns next cs =
    need body (free + length (bound_in q)) (numbered free (bound_in q) ns) next cs × CaseNeeds need rows free ns next cs

abbrev pub PeelsNeed : Need → List Link → Parts → (free : ℕ) → Numbers → (next : ℕ) → Channels → Type 0
PeelsNeed need links b.no_parts free ns next cs = ⊥
PeelsNeed need links (b.part_then h body b.no_parts) free ns next cs = need body free ns next cs
PeelsNeed need links (b.part_then h body (b.part_then g c parts)) free ns next cs =
    (l : Link) × (more : List Link) × (links_to (b.part_then g c parts) h links ≡ l ∷ more)
    × PeelsNeed need (without_link l.name.name links) (b.part_then g c parts) free ns (suc next) ((l.name.name, next) ∷ those (λ x. not (stands_in h x)) cs)
    × need body free ns (suc next) ((l.name.name, next) ∷ those (stands_in h) cs)

abbrev pub CommandNeeds : World → Need → Body → (free : ℕ) → Numbers → (next : ℕ) → Channels → Type 0
CommandNeeds w need (b.Then (b.Put at a x) rest) free ns next cs = IsKnown w (names ns) a × IsHeld x.name cs × need rest free ns next cs
CommandNeeds w need (b.Then (b.Get at v x) rest) free ns next cs = IsHeld x.name cs × need rest (suc free) (binds v free ns) next cs
CommandNeeds w need (b.Then (b.Hput at k x) rest) free ns next cs = (m : ℕ) × (number_of w k.name ≡ Some m) × IsHeld x.name cs × need rest free ns next cs
CommandNeeds w need (b.Then (b.Split at x y z) rest) free ns next cs =
    IsHeld x.name cs × need rest free ns (suc (suc next)) ((z.name, suc next) ∷ (y.name, next) ∷ without x.name cs)
CommandNeeds w need (b.Then (b.Close at x) rest) free ns next cs = IsHeld x.name cs × need rest free ns next (without x.name cs)
CommandNeeds w need (b.Halt at None) free ns next cs = Unit {0}
CommandNeeds w need (b.Halt at (Some x)) free ns next cs = IsHeld x.name cs
CommandNeeds w need (b.Hcase at x rows) free ns next cs =
    IsHeld x.name cs × ((m : ℕ) → row_picked w m rows ≡ None → count_hcase w rows ≤ m) × HcaseNeeds w need (count_hcase w rows) rows free ns next cs
CommandNeeds w need (b.Fork at x y left z right) free ns next cs =
    IsHeld x.name cs × need left free ns (suc (suc next)) ((y.name, next) ∷ those (λ c. is_free c left) (without x.name cs))
    × need right free ns (suc (suc next)) ((z.name, suc next) ∷ those (λ c. not (is_free c left)) (without x.name cs))
CommandNeeds w need (b.Plug at links parts) free ns next cs = (has_two (last_first links parts) ≡ true) × PeelsNeed need links (last_first links parts) free ns next cs
CommandNeeds w need (b.Race at rows) free ns next cs = RaceNeeds need rows free ns next cs
CommandNeeds w need (b.Case at a rows) free ns next cs = IsKnown w (names ns) a × CaseNeeds need rows free ns next cs
CommandNeeds w need (b.Identity at x negated y) free ns next cs = IsHeld x cs × IsHeld y.name cs
CommandNeeds w need (b.Call at x args inputs outputs) free ns next cs =
    (d : ProcessDecl) × (process_named w x ≡ Some d) × (length d.row.variables ≡ count args) × (length d.row.inputs ≡ length inputs) × (length d.row.outputs ≡ length outputs)
    × AreKnown w (names ns) args × AreHeld inputs cs × AreHeld outputs cs

abbrev pub BodyNeeds : World → ℕ → Body → (free : ℕ) → Numbers → (next : ℕ) → Channels → Type 0
BodyNeeds w zero body free ns next cs = ⊥
BodyNeeds w (suc n) body free ns next cs = CommandNeeds w (BodyNeeds w n) body free ns next cs

abbrev pub ProcessNeeds : World → ℕ → ProcessDecl → Type 0
ProcessNeeds w n d = BodyNeeds w n d.row.body (length d.row.variables) (parameter_numbers 0 d.row.variables) (length d.row.inputs + length d.row.outputs) (first_channels d)

abbrev pub ProcessesNeed : World → ℕ → List ProcessDecl → Type 0
ProcessesNeed w n [] = Unit {0}
ProcessesNeed w n (d ∷ ds) = ProcessNeeds w n d × ProcessesNeed w n ds
