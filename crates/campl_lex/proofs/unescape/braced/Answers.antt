use Rattle.std.proofs.Common.{◌≡◌, ◌∷◌, ◌+◌, ◌*◌, drop, sym, ◌∙◌, ap, arith, Some}
use Rattle.campl_lex.proofs.Braced.{closes, behind, value_more, run_more, small, small_more}
use Rattle.campl_lex.proofs.unescape.braced.Goals as goal

pub returns-in_ok-from_u32 : goal.returns-in_ok-from_u32
returns-in_ok-from_u32 g c =
    let cs = g.F.Front.letters c.args.text in
    let i = c.loop-count.count in
    let rest = g.F.Front.letters c.in_ok-letter.behind in
    let here : drop i cs ≡ 125 ∷ rest = sym c.loop-count.invariant.0 ∙ c.in_ok-letter.ensures ∙ ap (λ d. d ∷ rest) c.if-letter-eq125.true in (
      i + 1,
      omega arith,
      closes cs i c.loop-count.value rest here c.loop-count.invariant.1 c.loop-count.invariant.2 (omega arith) (omega arith) c.in_ok-from_u32.ensures.value.0
          ∙ ap (λ v. Some (v, i + 1 + 2)) (sym c.in_ok-from_u32.ensures.value.1),
      behind cs i 125 rest here,
    )

pub overflow_mul-value : goal.overflow_mul-value
overflow_mul-value g c = let h = small c.loop-count.value c.loop-count.count c.loop-count.invariant.3 (omega arith) in omega (arith, h)

pub overflow_add-value : goal.overflow_add-value
overflow_add-value g c =
    let digit = c.in_ok-value.ensures.value in
    let h = small c.loop-count.value c.loop-count.count c.loop-count.invariant.3 (omega arith) in omega (arith, h, digit.0, digit.1)

pub loop-count-preserved : goal.loop-count-preserved
loop-count-preserved g c =
    let cs = g.F.Front.letters c.args.text in
    let i = c.loop-count.count in
    let letter = c.in_ok-letter.letter in
    let rest = g.F.Front.letters c.in_ok-letter.behind in
    let here : drop i cs ≡ letter ∷ rest = sym c.loop-count.invariant.0 ∙ c.in_ok-letter.ensures in
    let digit = c.in_ok-value.ensures.value in (
      behind cs i letter rest here,
      run_more cs i letter rest here digit.0 c.loop-count.invariant.1,
      ap (λ d. c.loop-count.value * 16 + d) digit.1 ∙ value_more cs i c.loop-count.value letter rest here c.loop-count.invariant.2 digit.0,
      small_more c.loop-count.value i c.in_ok-value.field-0 c.loop-count.invariant.3 (omega (arith, digit.0, digit.1)),
    )
