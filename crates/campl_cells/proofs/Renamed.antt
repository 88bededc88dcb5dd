-- Numbers that aren't in use may be named otherwise.
use Rattle.std.proofs.Common.{◌≡◌, ◌≤◌, ◌⊎◌, inl, inr, ℕ, List, [], ◌∷◌, Option, Some, None, IsSome, IfSome, map, option_map, refl, sym, ap, ap₂, subst, ◌∙◌}
use Rattle.std.proofs.Math.Path.{fun_ext}
use Rattle.std.specs.List.{AllByRecursion}
use Rattle.campl_machine.specs.Names.{Path, End, Who, Process}
use Rattle.campl_value.specs.declared.message.Message.TheVariants.{Word, Pick, Ends as EndPair}
use Rattle.campl_meaning.specs.States as s
use Rattle.campl_meaning.specs.States.{Message}
use Rattle.campl_code.specs.Instructions.{Code}
use Rattle.campl_code_bodies.specs.Commands as k
use Rattle.campl_code_bodies.specs.Commands.{CodeState, RunsCode, Beside}
use Rattle.campl_code_bodies.specs.Running.{CodeConfiguration}
use Rattle.campl_cells.specs.Parts.{Mail, Ends, Life, Ended, Runs, Serves, Proc, Tip, Parts, or_bare, or_else}
use Rattle.campl_cells.specs.Stands.{Naming, StandsFor, Grows, IsNode, IsBorn, LifeWithin, MailWithin, IsEnd, named_mail, named_ends}
use Rattle.campl_cells.proofs.Puts.{if-then, if-here, and-there, is-there}
use Rattle.campl_cells.proofs.Tips.{peer-there}
use Rattle.campl_cells.proofs.Nodes.{HasMade}

module _ (f g : ℕ → End) (There : ℕ → Type 0) (same : (e : ℕ) → There e → g e ≡ f e) where
  one-end : (o : Option ℕ) → IfSome o There → option_map f o ≡ option_map g o
  one-end None h = refl
  one-end (Some e) h = ap Some (sym (same e h))

  pub ends-same : (ends : Ends) → ((k : ℕ) → IfSome (ends k) There) → named_ends f ends ≡ named_ends g ends
  ends-same ends h = fun_ext (λ k. one-end (ends k) (h k))

  mail-same : (mail : Mail) → MailWithin There mail → named_mail f mail ≡ named_mail g mail
  mail-same (Word v) h = refl
  mail-same (Pick k) h = refl
  mail-same (EndPair a b) h = ap₂ s.EndPair (sym (same a h.0)) (sym (same b h.1))

  pub mails-same : (xs : List Mail) → AllByRecursion (MailWithin There) xs → map (named_mail f) xs ≡ map (named_mail g) xs
  mails-same [] h = refl
  mails-same (x ∷ xs) h = ap₂ ◌∷◌ (mail-same x h.0) (mails-same xs h.1)

  pub node-same : (code : Code) (v w : Who) (steps : ℕ) (life : Life) (found : Option CodeState) → w ≡ v → LifeWithin There life → IsNode code f v steps life found → IsNode code g w steps life found
  node-same code v w steps Ended found e h is = is
  node-same code v w steps (Runs held) found e h is = record {
    path = is.path;
    process = e ∙ is.process;
    at = is.at;
    vars = is.vars;
    spent = is.spent;
    runs = is.runs ∙ (let mk : k.Ends → Option CodeState = λ ends. Some (RunsCode (record { block = held.block; at = is.at; vars = is.vars; ends = ends; steps = steps; spent = is.spent })) in ap mk (ends-same held.ends h));
    kept = is.kept;
  }
  node-same code v w steps (Serves end serving) found e h is = record {
    number = is.number;
    service = e ∙ is.service;
    serves = is.serves ∙ (let mk : End → Option CodeState = λ x. Some (Beside (s.Serves (record { end = x; serving = serving }))) in ap mk (sym (same end h)));
  }

module _ (code : Code) (n n2 : Naming) (m : Parts) (c : CodeConfiguration) (z : StandsFor code n m c) (g : Grows n n2 m) where
  back : (i : ℕ) → IsSome (m.process i) → (w : Who) → n2.who i ≡ w → n.who i ≡ w
  back i h w e = sym (g.who i h) ∙ e

  births : (i : ℕ) → IfSome (m.process i) (λ q. (path : Path) → n2.who i ≡ Process path → (path ≡ []) ⊎ IsBorn n2 m.process q path)
  births i = if-then (λ q. (path : Path) → n.who i ≡ Process path → (path ≡ []) ⊎ IsBorn n m.process q path) (λ q. (path : Path) → n2.who i ≡ Process path → (path ≡ []) ⊎ IsBorn n2 m.process q path)
      (m.process i) (λ q e h path w. go q path (h path (back i (is-there (m.process i) q e) (Process path) w))) (z.named.births i)
    where
      go : (q : Proc) (path : Path) → (path ≡ []) ⊎ IsBorn n m.process q path → (path ≡ []) ⊎ IsBorn n2 m.process q path
      go q path (inl e) = inl e
      go q path (inr b) = inr (record {
        parent = b.parent;
        named = g.who q.parent (and-there (λ r. q.born ≤ r.steps) (m.process q.parent) b.made) ∙ b.named;
        path_is = b.path_is;
        made = b.made;
      })

  pub renamed : StandsFor code n2 m c
  renamed = record {
    shows = record {
      process = λ i. if-then (λ q. IsNode code n.end (n.who i) q.steps q.life (c.nodes (n.who i))) (λ q. IsNode code n2.end (n2.who i) q.steps q.life (c.nodes (n2.who i))) (m.process i)
          (λ q e h.
          let there = is-there (m.process i) q e in
          subst (λ w. IsNode code n2.end (n2.who i) q.steps q.life (c.nodes w)) (sym (g.who i there))
          (node-same n.end n2.end (IsEnd m.tip) g.end code (n.who i) (n2.who i) q.steps q.life (c.nodes (n.who i)) (g.who i there)
          (if-here (λ q. LifeWithin (IsEnd m.tip) q.life) (m.process i) q e (z.wired.held i)) h))
          (z.shows.process i);
      partner = λ e. if-then (λ t. c.partner (n.end e) ≡ option_map n.end t.peer) (λ t. c.partner (n2.end e) ≡ option_map n2.end t.peer) (m.tip e)
          (λ t q h. ap c.partner (g.end e (is-there (m.tip e) t q)) ∙ (h ∙ peer e t q t.peer refl)) (z.shows.partner e);
      owed = λ e. if-then (λ t. c.owed (n.end (or_else t.peer e)) ≡ map (named_mail n.end) t.inbox) (λ t. c.owed (n2.end (or_else t.peer e)) ≡ map (named_mail n2.end) t.inbox) (m.tip e)
          (λ t q h. ap c.owed (owned e t q t.peer refl) ∙ (h ∙ mails-same n.end n2.end (IsEnd m.tip) g.end t.inbox
          (if-here (λ t. AllByRecursion (MailWithin (IsEnd m.tip)) t.inbox) (m.tip e) t q (z.wired.carried e)))) (z.shows.owed e);
      no_node = λ w h. z.shows.no_node w (λ i there e. h i there (g.who i there ∙ e));
      no_end = λ x h. z.shows.no_end x (λ k there e. h k there (g.end k there ∙ e));
    };
    named = record {
      births = births;
      bearers = λ e there.
          let b = z.named.bearers e there in
          let same = g.end e there in
          record {
            number = b.number;
            named = g.who b.number (and-there (λ r. (n.end e).step ≤ r.steps) (m.process b.number) b.made) ∙ (b.named ∙ ap (λ (x : End). Process x.bearer) (sym same));
            made = subst (λ (x : End). HasMade m.process b.number x.step) (sym same) b.made;
          };
      processes = λ i j hi hj e. z.named.processes i j hi hj (sym (g.who i hi) ∙ (e ∙ g.who j hj));
      ends = λ e f he hf q. z.named.ends e f he hf (sym (g.end e he) ∙ (q ∙ g.end f hf));
    };
    wired = z.wired;
  }
    where
      peer-in-use : (e f : ℕ) (t : Tip) → m.tip e ≡ Some t → t.peer ≡ Some f → IsSome (m.tip f)
      peer-in-use e f t q h = peer-there (m.tip f) e (z.wired.peers.back e f (ap (λ o. (or_bare o).peer) q ∙ h))

      peer : (e : ℕ) (t : Tip) → m.tip e ≡ Some t → (o : Option ℕ) → t.peer ≡ o → option_map n.end o ≡ option_map n2.end o
      peer e t q None h = refl
      peer e t q (Some f) h = ap Some (sym (g.end f (peer-in-use e f t q h)))

      owned : (e : ℕ) (t : Tip) → m.tip e ≡ Some t → (o : Option ℕ) → t.peer ≡ o → n2.end (or_else o e) ≡ n.end (or_else o e)
      owned e t q None h = g.end e (is-there (m.tip e) t q)
      owned e t q (Some f) h = g.end f (peer-in-use e f t q h)
