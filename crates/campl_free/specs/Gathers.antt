-- What a walk over a body adds to a set of names. The words of Free are kept closed here, as tests of names.
use Rattle.std.specs.Prelude.{◌≡◌, Bool, false, not, ◌&&◌, ◌||◌, List, [], ◌∷◌, Option, Some, None}
use Rattle.campl_tree.specs.declared.place.Ident.{Ident}
use Rattle.campl_tree.specs.Plain.Process.{Action, Body, HcaseRows, Branches, CaseRows, Parts}
use Rattle.campl_types.specs.Names.{Name, same_name, is_among}
use Rattle.campl_types.specs.Free.{channel_of, channels_bound, is_free, is_free_in_rows, is_free_in_branches, is_free_in_cases, is_free_in_parts}
use Rattle.campl_names.specs.Scope.{with_names}

-- a test of names
abbrev pub Test : Type 0
Test = Name → Bool

-- to the old names came those of the test that are not bound
pub record Gathers (bound : List Name) (test : Test) (old new : List Name) : Type 0 where
  pub told : (n : Name) → is_among n new ≡ (is_among n old || (not (is_among n bound) && test n))

-- no name
unfoldable pub nothing : Test
nothing n = false

-- this name
unfoldable pub is_name : Name → Test
is_name x n = same_name n x

-- one of these names
unfoldable pub is_one_of : List Name → Test
is_one_of xs n = is_among n xs

-- by one test or the other
unfoldable pub either_of : (f g : Test) → Test
either_of f g n = f n || g n

-- where these names are bound
unfoldable pub under : List Name → Test → Test
under xs f n = not (is_among n xs) && f n

-- the channel that `halt` names, if it names one
abbrev pub named_by : Option Ident → Test
named_by None = nothing
named_by (Some x) = is_name x.name

-- Free names

-- free in a body
unfoldable pub free_in : Body → Test
free_in body n = is_free n body

-- in a row of `hcase`
unfoldable pub free_in_rows : HcaseRows → Test
free_in_rows rows n = is_free_in_rows n rows

-- in a row of `race`
unfoldable pub free_in_branches : Branches → Test
free_in_branches rows n = is_free_in_branches n rows

-- in a row of `case`
unfoldable pub free_in_cases : CaseRows → Test
free_in_cases rows n = is_free_in_cases n rows

-- in a part of a plug
unfoldable pub free_in_parts : Parts → Test
free_in_parts parts n = is_free_in_parts n parts

-- Commands

-- what is bound behind commands
abbrev pub inside : List Name → List Action → List Name
inside bound [] = bound
inside bound (a ∷ more) = inside (with_names bound (channels_bound a)) more

-- what is free in commands and what follows them
abbrev pub behind : List Action → Test → Test
behind [] last = last
behind (a ∷ more) last = either_of (is_name (channel_of a)) (under (channels_bound a) (behind more last))

-- to the old names came those of the commands, so that with those of whatever last command they are the body's
pub record GathersBehind (bound : List Name) (actions : List Action) (old new : List Name) : Type 0 where
  pub told : (last : Test) (final : List Name) → Gathers (inside bound actions) last new final → Gathers bound (behind actions last) old final
