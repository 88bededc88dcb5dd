-- The receipt with which a body begins.
use Rattle.std.proofs.Common.{◌≡◌, ◌∙◌, refl, ap, List, [], ◌∷◌, Some, None, map, slice_get}
use Rattle.campl_tree.specs.declared.process.Body.{Body as CodeBody}
use Rattle.campl_tree.specs.declared.process.Body as code
use Rattle.campl_tree.specs.declared.process.Action as code_action
use Rattle.campl_tree.specs.Plain.Process as b
use Rattle.campl_tree.specs.Plain.Process.{Body}
use Rattle.campl_tree.specs.View.{view_action, view_last, view_body, actions_then}
use Rattle.campl_tree.proofs.Views.{process_views, view_body-out}
use Rattle.campl_types.specs.Names.{Name}
use Rattle.campl_types.specs.Polarity.{Deed, Puts, Gets, Forks, Splits, Picks, Offers, Ends, IsLinked, act_of}
use Rattle.campl_linear.specs.Rows.{begins_with}
use Rattle.campl_rows.specs.Receipts.{receipt_of, action_receipt, is_at}

receipt-behind : (q : CodeBody) (actions : List code_action.Action) → (code.out-Body q).actions ≡ actions → receipt_of (view_body q) ≡ receipt_of (actions_then (map view_action actions) (view_last (code.out-Body q).last))
receipt-behind q actions i = ap receipt_of (view_body-out q) ∙ ap (λ xs. receipt_of (actions_then (map view_action xs) (view_last (code.out-Body q).last))) i

none-first : {A : Type 0} (xs : List A) → None ≡ slice_get xs 0 → xs ≡ []
none-first [] i = refl
none-first (x ∷ xs) i = absurd (let none : ⊥ = cc in none)

pub receipt-alone : (q : CodeBody) → None ≡ slice_get (code.out-Body q).actions 0 → receipt_of (view_body q) ≡ receipt_of (view_last (code.out-Body q).last)
receipt-alone q i = receipt-behind q [] (none-first (code.out-Body q).actions i)

first-receipt : (actions : List code_action.Action) (a : code_action.Action) (end : Body) → Some a ≡ slice_get actions 0 → receipt_of (actions_then (map view_action actions) end) ≡ action_receipt (view_action a)
first-receipt [] a end i = absurd (let none : ⊥ = cc in none)
first-receipt (x ∷ actions) a end i = let e : x ≡ a = cc in ap (λ y. action_receipt (view_action y)) e

pub receipt-first : (q : CodeBody) (a : code_action.Action) → Some a ≡ slice_get (code.out-Body q).actions 0 → receipt_of (view_body q) ≡ action_receipt (view_action a)
receipt-first q a i = receipt-behind q (code.out-Body q).actions refl ∙ first-receipt (code.out-Body q).actions a (view_last (code.out-Body q).last) i

-- a body begins with the receipt at which a channel is, by the table's entry
pub begins-so : (d : Deed) (x : Name) (body : Body) → begins_with d x body ≡ is_at (act_of d) x (receipt_of body)
begins-so (Puts t y) x body = refl
begins-so (Forks t r) x body = refl
begins-so (Picks cs) x body = refl
begins-so Ends x body = refl
begins-so IsLinked x body = refl
begins-so (Gets t y) x (b.Then (b.Put at a c) rest) = refl
begins-so (Gets t y) x (b.Then (b.Get at v c) rest) = refl
begins-so (Gets t y) x (b.Then (b.Hput at k c) rest) = refl
begins-so (Gets t y) x (b.Then (b.Split at c p q) rest) = refl
begins-so (Gets t y) x (b.Then (b.Close at c) rest) = refl
begins-so (Gets t y) x (b.Halt at c) = refl
begins-so (Gets t y) x (b.Hcase at c rows) = refl
begins-so (Gets t y) x (b.Fork at c p left q right) = refl
begins-so (Gets t y) x (b.Plug at links parts) = refl
begins-so (Gets t y) x (b.Race at rows) = refl
begins-so (Gets t y) x (b.Case at a rows) = refl
begins-so (Gets t y) x (b.Identity at p negated q) = refl
begins-so (Gets t y) x (b.Call at p args inputs outputs) = refl
begins-so (Splits t r) x (b.Then (b.Put at a c) rest) = refl
begins-so (Splits t r) x (b.Then (b.Get at v c) rest) = refl
begins-so (Splits t r) x (b.Then (b.Hput at k c) rest) = refl
begins-so (Splits t r) x (b.Then (b.Split at c p q) rest) = refl
begins-so (Splits t r) x (b.Then (b.Close at c) rest) = refl
begins-so (Splits t r) x (b.Halt at c) = refl
begins-so (Splits t r) x (b.Hcase at c rows) = refl
begins-so (Splits t r) x (b.Fork at c p left q right) = refl
begins-so (Splits t r) x (b.Plug at links parts) = refl
begins-so (Splits t r) x (b.Race at rows) = refl
begins-so (Splits t r) x (b.Case at a rows) = refl
begins-so (Splits t r) x (b.Identity at p negated q) = refl
begins-so (Splits t r) x (b.Call at p args inputs outputs) = refl
begins-so (Offers cs) x (b.Then (b.Put at a c) rest) = refl
begins-so (Offers cs) x (b.Then (b.Get at v c) rest) = refl
begins-so (Offers cs) x (b.Then (b.Hput at k c) rest) = refl
begins-so (Offers cs) x (b.Then (b.Split at c p q) rest) = refl
begins-so (Offers cs) x (b.Then (b.Close at c) rest) = refl
begins-so (Offers cs) x (b.Halt at c) = refl
begins-so (Offers cs) x (b.Hcase at c rows) = refl
begins-so (Offers cs) x (b.Fork at c p left q right) = refl
begins-so (Offers cs) x (b.Plug at links parts) = refl
begins-so (Offers cs) x (b.Race at rows) = refl
begins-so (Offers cs) x (b.Case at a rows) = refl
begins-so (Offers cs) x (b.Identity at p negated q) = refl
begins-so (Offers cs) x (b.Call at p args inputs outputs) = refl

pub ruleset lasts = (process_views)

pub ruleset beginning = (begins-so)
