use Rattle.std.proofs.Common.{◌≡◌, ◌∙◌, ap, sym, subst, arith}
use Rattle.std.specs.Str.{chars}
use Rattle.campl_lex.specs.Spot.{bytes, first_spot}
use Rattle.campl_lex.specs.Reading.{lexed}
use Rattle.campl_lex.specs.Layout.{Answers}
use Rattle.campl_lex.proofs.Told.{told, wanted_is, written, slices}
use Rattle.campl_lex.proofs.lexer.lex.Goals as goal

pub tokens_of-requires : goal.tokens_of-requires
tokens_of-requires c =
    let size : bytes c.deref.result.now ≡ bytes (chars c.args.text.now) = ap bytes (c.deref.ensures.value ∙ c.in_ok-letters.ensures.letters) in
    omega (arith, c.in_ok-letters.ensures.small, c.in_ok-letters.ensures.bytes)

pub returns : goal.returns
returns c =
    let letters = chars c.args.text.now in
    let e : Answers (lexed 0 first_spot letters) c.tokens_of.result =
    subst (λ cs. Answers (lexed 0 first_spot cs) c.tokens_of.result) (c.deref.ensures.value ∙ c.in_ok-letters.ensures.letters) c.tokens_of.ensures in
    record {
      tells = told letters c.tokens_of.result e;
      finds = λ wanted d. wanted_is letters c.tokens_of.result e wanted d;
      written = written c.args.text.now letters c.tokens_of.result (omega (arith, c.in_ok-letters.ensures.bytes)) e;
      slices = slices c.args.text.now letters c.tokens_of.result (sym c.in_ok-letters.ensures.encoded) e;
    }
