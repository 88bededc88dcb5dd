use Rattle.std.proofs.Common.{◌≡◌, ◌∙◌, ap, sym, subst, map, true, false, ℕ, Option, IfOk}
use Rattle.std.proofs.lemmas.List.{length-map}
use Rattle.campl_instructions.specs.View.{view_block, view_code}
use Rattle.campl_rules.specs.Faults.{first_block}
use Rattle.campl_rules.proofs.Numbered.{fault-first, fault-behind}
use Rattle.campl_rules.proofs.rules.find_fault.Goals as goal

pub returns-in-Some : goal.returns-in-Some
returns-in-Some c =
    let code = view_code c.args.code.now in
    fault-first code c.in-Some.fault (sym c.in-Some.is ∙ c.in_ok-fault.ensures ∙ ap (λ l. first_block code false 0 (map view_block l)) c.as_slice-2.ensures)

pub returns : goal.returns
returns c =
    let code = view_code c.args.code.now in
    subst (λ y. IfOk c.behind.result (λ (f : Option (ℕ × ℕ)). f ≡ y))
    (fault-behind code c.len.result c.in_ok-fault-in-None.fault (sym c.in-None.is ∙ c.in_ok-fault.ensures ∙ ap (λ l. first_block code false 0 (map view_block l)) c.as_slice-2.ensures)
    (c.in_ok-fault-in-None.ensures ∙ ap (λ l. first_block code true 0 (map view_block l)) c.as_slice-in-None.ensures)
    (c.len.ensures ∙ sym (length-map c.args.code.now.functions view_block)))
    c.behind.ensures
