-- What a process wants is its cell's command.
use Rattle.std.proofs.Common.{◌≡◌, inl, inr, ℕ, suc, ◌+◌, Bool, true, false, ◌&&◌, List, [], ◌∷◌, ◌++◌, Option, Some, None, IsSome, IfSome, is_some, option_map, eqb, slice_get, slice_set, if◌then◌else◌, refl, sym, ap, ap₂, subst, ◌∙◌, arith}
use Rattle.std.proofs.Math.Path.{fun_ext}
use Rattle.campl_tree.specs.declared.service.Side.{Side}
use Rattle.campl_tree.specs.declared.service.Side.TheVariants.{Input, Output}
use Rattle.campl_tree.specs.Side.{opposite}
use Rattle.campl_machine.specs.Names.{Path, End, First, Second, Who, Process}
use Rattle.campl_machine.specs.Machine.{Moves, Looks, Links, Breaks}
use Rattle.campl_value.specs.Tree.{Tree}
use Rattle.campl_value.specs.declared.message.Message.TheVariants.{Word, Pick, Ends as EndPair}
use Rattle.campl_meaning.specs.States as k
use Rattle.campl_meaning.specs.States.{Message}
use Rattle.campl_meaning.specs.Wants.{half_on}
use Rattle.campl_code.specs.Instructions.{Instr, Block, Code, blocks}
use Rattle.campl_code.specs.Instructions as i
use Rattle.campl_code.specs.Decisions.{chosen}
use Rattle.campl_code.specs.Frames.{set_from}
use Rattle.campl_code_bodies.specs.Commands as c
use Rattle.campl_code_bodies.specs.Commands.{Cell, CodeState, RunsCode, CodeCommand, channel_at}
use Rattle.campl_code_bodies.specs.Kept.{Kept, Values, AtCall, Broken, IsKept, kept_command}
use Rattle.campl_cells.specs.Parts.{Mail, Ends, Held, Tip, near, far, written}
use Rattle.campl_cells.specs.Wants as w
use Rattle.campl_cells.specs.Wants.{Drawn, Start, Next, Begins, Spends, Want, set_end, end_at, start_at, onward, are_set, end_on}
use Rattle.campl_cells.specs.Steps.{borne}
use Rattle.campl_cells.specs.Stands.{Naming, IsNode, LifeWithin, MailWithin, IsEnd, cell_of, named_mail, named_ends, birth}
use Rattle.campl_cells.proofs.Puts.{written-keeps, written-lies}
use Rattle.campl_cells.proofs.Alike.{GoesAs, FitsAs, WantAs, found-end, found-same, one-same, quiet-as, send-as, look-as, begins, gone-as}

-- the machine's names of what the next step of a process bears
pub record NamesDrawn (n : Naming) (d : Drawn) (path : Path) (step : ℕ) : Type 0 where
  pub child : n.who d.child ≡ Process (path ++ birth step ∷ [])
  pub near1 : n.end (near d.channel) ≡ record { bearer = path; step = step; channel = 1; half = First }
  pub far1 : n.end (far d.channel) ≡ record { bearer = path; step = step; channel = 1; half = Second }
  pub near2 : n.end (near d.channel2) ≡ record { bearer = path; step = step; channel = 2; half = First }
  pub far2 : n.end (far d.channel2) ≡ record { bearer = path; step = step; channel = 2; half = Second }

-- Ends that are set

pub named-set : (name : ℕ → End) (l e : ℕ) (ends : Ends) → named_ends name (set_end l e ends) ≡ c.set_end l (name e) (named_ends name ends)
named-set name l e ends = fun_ext (λ m. go m (eqb l m))
  where
    go : (m : ℕ) (b : Bool) → option_map name (if b then Some e else ends m) ≡ (if b then Some (name e) else option_map name (ends m))
    go m true = refl
    go m false = refl

pub set-within : (There : ℕ → Type 0) (l e : ℕ) (ends : Ends) → There e → ((k : ℕ) → IfSome (ends k) There) → (k : ℕ) → IfSome (set_end l e ends k) There
set-within There l e ends te h m = go (eqb l m)
  where
    go : (b : Bool) → IfSome (if b then Some e else ends m) There
    go true = te
    go false = h m

pub wider : (P Q : ℕ → Type 0) → ((e : ℕ) → P e → Q e) → (o : Option ℕ) → IfSome o P → IfSome o Q
wider P Q f None h = tt
wider P Q f (Some e) h = f e h

end-at-named : (name : ℕ → End) (ends : Ends) (o : Option ℕ) → c.end_at (named_ends name ends) o ≡ option_map name (end_at ends o)
end-at-named name ends None = refl
end-at-named name ends (Some k) = refl

end-at-within : (There : ℕ → Type 0) (ends : Ends) → ((k : ℕ) → IfSome (ends k) There) → (o : Option ℕ) → IfSome (end_at ends o) There
end-at-within There ends h None = tt
end-at-within There ends h (Some k) = h k

is-some-named : (name : ℕ → End) (o : Option ℕ) → is_some (option_map name o) ≡ is_some o
is-some-named name None = refl
is-some-named name (Some e) = refl

set-named : (name : ℕ → End) (block : List Instr) (ends : Ends) (targets : List ℕ) → c.are_set block (named_ends name ends) targets ≡ are_set block ends targets
set-named name block ends [] = refl
set-named name block ends (to ∷ targets) =
    ap₂ ◌&&◌ (ap is_some (end-at-named name ends (channel_at block to)) ∙ is-some-named name (end_at ends (channel_at block to))) (set-named name block ends targets)

module _ (code : Code) (n : Naming) (tip : ℕ → Option Tip) (d : Drawn) (who : Who) (steps : ℕ) (path : Path) (named : who ≡ Process path) (h : Held)
    (at0 : ℕ) (vars0 : List Tree) (spent : ℕ) (kept : IsKept code (cell_of n.end h steps at0 vars0 spent) h.kept) (held : (i : ℕ) → IfSome (h.ends i) (IsEnd tip))
    (drawn : NamesDrawn n d path (suc steps)) where
  abbrev cell : Cell
  cell = cell_of n.end h steps at0 vars0 spent

  abbrev As : Want → CodeCommand → Type 0
  As = WantAs code n tip d who steps

  -- at another place of the block
  on : (There : ℕ → Type 0) (at : ℕ) (vars : List Tree) (ends : Ends) (named_as : c.Ends) → ((i : ℕ) → IfSome (ends i) There) → named_as ≡ named_ends n.end ends →
      GoesAs code n There who (suc steps) (onward h at vars ends) (Some (c.onward cell at vars named_as))
  on There at vars ends named_as within e = begins code n There who (suc steps) path named (start_at h at vars ends) within named_as e

  on-same : (at : ℕ) (vars : List Tree) → GoesAs code n (IsEnd tip) who (suc steps) (onward h at vars h.ends) (Some (c.onward cell at vars cell.ends))
  on-same at vars = on (IsEnd tip) at vars h.ends cell.ends held refl

  get-fits : (at : ℕ) (vars : List Tree) (variable : ℕ) (mail : Mail) → MailWithin (IsEnd tip) mail →
      FitsAs code n (IsEnd tip) who (suc steps) (w.after_get h at vars variable mail) (c.word_to (λ u. Some (c.onward cell at (slice_set vars variable u) cell.ends)) (named_mail n.end mail))
  get-fits at vars variable (Word v) m = on-same at (slice_set vars variable v)
  get-fits at vars variable (Pick x) m = tt
  get-fits at vars variable (EndPair a b) m = tt

  split-fits : (at : ℕ) (vars : List Tree) (l r : ℕ) (mail : Mail) → MailWithin (IsEnd tip) mail →
      FitsAs code n (IsEnd tip) who (suc steps) (w.after_split h at vars l r mail) (c.ends_to (λ f g. Some (c.onward cell at vars (c.set_end r g (c.set_end l f cell.ends)))) (named_mail n.end mail))
  split-fits at vars l r (Word v) m = tt
  split-fits at vars l r (Pick x) m = tt
  split-fits at vars l r (EndPair a b) m =
      on (IsEnd tip) at vars (set_end r b (set_end l a h.ends)) (c.set_end r (n.end b) (c.set_end l (n.end a) cell.ends))
      (set-within (IsEnd tip) r b (set_end l a h.ends) m.1 (set-within (IsEnd tip) l a h.ends m.0 held))
      (sym (named-set n.end r b (set_end l a h.ends) ∙ ap (c.set_end r (n.end b)) (named-set n.end l a h.ends)))

  offer-fits : (vars : List Tree) (targets : List ℕ) (mail : Mail) → MailWithin (IsEnd tip) mail →
      FitsAs code n (IsEnd tip) who (suc steps) (w.after_offer h vars targets mail) (c.pick_to (λ m. option_map (λ to. c.onward cell to vars cell.ends) (slice_get targets m)) (named_mail n.end mail))
  offer-fits vars targets (Word v) m = tt
  offer-fits vars targets (Pick x) m = go (slice_get targets x)
    where
      go : (o : Option ℕ) → FitsAs code n (IsEnd tip) who (suc steps) (option_map (λ to. onward h to vars h.ends) o) (option_map (λ to. c.onward cell to vars cell.ends) o)
      go None = tt
      go (Some to) = on-same to vars
  offer-fits vars targets (EndPair a b) m = tt

  chooses-as : (block : List Instr) (vars : List Tree) (branch : ℕ) (o : Option ℕ) → As (w.chooses h block vars branch o) (c.chooses cell block vars branch o)
  chooses-as block vars branch None = inl refl
  chooses-as block vars branch (Some to) =
      subst (λ o. As (w.chooses h block vars branch (Some to)) (c.with_found (k.Choose branch) o (λ e. c.command (k.Choose branch) (Some e) (Looks false e (λ m. Some (c.onward cell to vars cell.ends))))))
      (sym (end-at-named n.end h.ends (channel_at block to)))
      (found-end code n tip d who steps (k.Choose branch) (end_at h.ends (channel_at block to)) (λ e. w.Looks (k.Choose branch) false e (w.after_choose h vars to))
      (λ e. c.command (k.Choose branch) (Some e) (Looks false e (λ m. Some (c.onward cell to vars cell.ends))))
      (end-at-within (IsEnd tip) h.ends held (channel_at block to))
      (λ e there. look-as code n tip d who steps (k.Choose branch) false e (w.after_choose h vars to) (λ m. Some (c.onward cell to vars cell.ends)) there (λ mail m. on-same to vars)))

  race-as : (block : List Instr) (vars : List Tree) (branch : ℕ) (o : Option ℕ) (b : Bool) → As (if b then w.chooses h block vars branch o else w.Rests) (if b then c.chooses cell block vars branch o else c.command (k.Choose branch) None Breaks)
  race-as block vars branch o true = chooses-as block vars branch o
  race-as block vars branch o false = inr refl

  -- Births

  abbrev OneBorn : ℕ → Type 0
  OneBorn = IsEnd (written (borne (d.channel ∷ [])) tip)

  abbrev TwoBorn : ℕ → Type 0
  TwoBorn = IsEnd (written (borne (d.channel ∷ d.channel2 ∷ [])) tip)

  held-still : (cs : List ℕ) (i : ℕ) → IfSome (h.ends i) (IsEnd (written (borne cs) tip))
  held-still cs i = wider (IsEnd tip) (IsEnd (written (borne cs) tip)) (written-keeps (borne cs) tip) (h.ends i) (held i)

  -- the ends with a new one at a number
  set-on : (There : ℕ → Type 0) (l e : ℕ) (x : End) → x ≡ n.end e → c.set_end l x cell.ends ≡ named_ends n.end (set_end l e h.ends)
  set-on There l e x q = ap (λ x. c.set_end l x cell.ends) q ∙ sym (named-set n.end l e h.ends)

  abbrev near1 : End
  near1 = c.born path cell 1 First

  abbrev far1 : End
  far1 = c.born path cell 1 Second

  abbrev near2 : End
  near2 = c.born path cell 2 First

  abbrev far2 : End
  far2 = c.born path cell 2 Second

  fork-as : (at : ℕ) (vars : List Tree) (e l r to : ℕ) → IsSome (tip e) →
      As
      (w.Moves k.Fork (Some e) (record {
        send = Some (e, EndPair (far d.channel) (far d.channel2));
        channels = d.channel ∷ d.channel2 ∷ [];
        child = Some (start_at h to vars (set_end r (near d.channel2) h.ends));
        next = onward h at vars (set_end l (near d.channel) h.ends);
      }))
      (c.command k.Fork (Some (n.end e)) (Moves (record {
        send = Some (n.end e, k.EndPair far1 far2);
        channels = (near1, far1) ∷ (near2, far2) ∷ [];
        children = (c.child path cell, c.newborn cell to vars (c.set_end r near2 cell.ends)) ∷ [];
        next = Some (c.onward cell at vars (c.set_end l near1 cell.ends));
      })))
  fork-as at vars e l r to there = record {
    children = (c.child path cell, c.newborn cell to vars (c.set_end r near2 cell.ends)) ∷ [];
    state = Some (c.onward cell at vars (c.set_end l near1 cell.ends));
    is = λ i. record {
      kind = k.Fork;
      end = Some (n.end e);
      second = None;
      act = Moves (record {
        send = Some (n.end e, k.EndPair (sym drawn.far1 i) (sym drawn.far2 i));
        channels = (sym drawn.near1 i, sym drawn.far1 i) ∷ (sym drawn.near2 i, sym drawn.far2 i) ∷ [];
        children = (c.child path cell, c.newborn cell to vars (c.set_end r near2 cell.ends)) ∷ [];
        next = Some (c.onward cell at vars (c.set_end l near1 cell.ends));
      });
    };
    end_there = there;
    few = (refl, refl);
    sending = (there, (written-lies (borne (d.channel ∷ d.channel2 ∷ [])) tip (far d.channel) (inr (inr (inl refl))), written-lies (borne (d.channel ∷ d.channel2 ∷ [])) tip (far d.channel2) (inl refl)));
    goes = on TwoBorn at vars (set_end l (near d.channel) h.ends) (c.set_end l near1 cell.ends)
        (set-within TwoBorn l (near d.channel) h.ends (written-lies (borne (d.channel ∷ d.channel2 ∷ [])) tip (near d.channel) (inr (inr (inr (inl refl))))) (held-still (d.channel ∷ d.channel2 ∷ [])))
        (set-on TwoBorn l (near d.channel) near1 (sym drawn.near1));
    bears = (
      sym drawn.child,
      begins code n TwoBorn (c.child path cell) 0 (path ++ birth (suc steps) ∷ []) refl (start_at h to vars (set_end r (near d.channel2) h.ends))
          (set-within TwoBorn r (near d.channel2) h.ends (written-lies (borne (d.channel ∷ d.channel2 ∷ [])) tip (near d.channel2) (inr (inl refl))) (held-still (d.channel ∷ d.channel2 ∷ [])))
          (c.set_end r near2 cell.ends) (set-on TwoBorn r (near d.channel2) near2 (sym drawn.near2)),
    );
  }

  half-named : (side : Side) → c.born path cell 1 (half_on side) ≡ n.end (end_on side d.channel)
  half-named Output = sym drawn.near1
  half-named Input = sym drawn.far1

  half-there : (side : Side) → OneBorn (end_on side d.channel)
  half-there Output = written-lies (borne (d.channel ∷ [])) tip (near d.channel) (inr (inl refl))
  half-there Input = written-lies (borne (d.channel ∷ [])) tip (far d.channel) (inl refl)

  peel-as : (at : ℕ) (vars : List Tree) (number : ℕ) (side : Side) (to : ℕ) →
      As
      (w.Moves k.Peel None (record {
        send = None;
        channels = d.channel ∷ [];
        child = Some (start_at h to vars (set_end number (end_on side d.channel) h.ends));
        next = onward h at vars (set_end number (end_on (opposite side) d.channel) h.ends);
      }))
      (c.command k.Peel None (Moves (record {
        send = None;
        channels = (near1, far1) ∷ [];
        children = (c.child path cell, c.newborn cell to vars (c.set_end number (c.born path cell 1 (half_on side)) cell.ends)) ∷ [];
        next = Some (c.onward cell at vars (c.set_end number (c.born path cell 1 (half_on (opposite side))) cell.ends));
      })))
  peel-as at vars number side to = record {
    children = (c.child path cell, c.newborn cell to vars (c.set_end number (c.born path cell 1 (half_on side)) cell.ends)) ∷ [];
    state = Some (c.onward cell at vars (c.set_end number (c.born path cell 1 (half_on (opposite side))) cell.ends));
    is = λ i. record {
      kind = k.Peel;
      end = None;
      second = None;
      act = Moves (record {
        send = None;
        channels = (sym drawn.near1 i, sym drawn.far1 i) ∷ [];
        children = (c.child path cell, c.newborn cell to vars (c.set_end number (c.born path cell 1 (half_on side)) cell.ends)) ∷ [];
        next = Some (c.onward cell at vars (c.set_end number (c.born path cell 1 (half_on (opposite side))) cell.ends));
      });
    };
    end_there = tt;
    few = refl;
    sending = tt;
    goes = on OneBorn at vars (set_end number (end_on (opposite side) d.channel) h.ends) (c.set_end number (c.born path cell 1 (half_on (opposite side))) cell.ends)
        (set-within OneBorn number (end_on (opposite side) d.channel) h.ends (half-there (opposite side)) (held-still (d.channel ∷ [])))
        (set-on OneBorn number (end_on (opposite side) d.channel) (c.born path cell 1 (half_on (opposite side))) (half-named (opposite side)));
    bears = (
      sym drawn.child,
      begins code n OneBorn (c.child path cell) 0 (path ++ birth (suc steps) ∷ []) refl (start_at h to vars (set_end number (end_on side d.channel) h.ends))
          (set-within OneBorn number (end_on side d.channel) h.ends (half-there side) (held-still (d.channel ∷ [])))
          (c.set_end number (c.born path cell 1 (half_on side)) cell.ends)
          (set-on OneBorn number (end_on side d.channel) (c.born path cell 1 (half_on side)) (half-named side)),
    );
  }

  -- Instructions

  link-as : (number other : ℕ) → As (w.with_found (h.ends number) (λ e. w.with_found (h.ends other) (λ f. w.Links e f)))
      (c.with_found k.Link (cell.ends number) (λ e. c.with_found k.Link (cell.ends other) (λ f. record { kind = k.Link; end = Some e; second = Some f; act = Links e f })))
  link-as number other = found-end code n tip d who steps k.Link (h.ends number) _ _ (held number)
      (λ e there. found-end code n tip d who steps k.Link (h.ends other) _ _ (held other) (λ f there2. record { is = refl; there_x = there; there_y = there2 }))

  call-as : (g : ℕ) (channels : List ℕ) (values : List Tree) (b : Block) → As (w.quiet k.Call None (Begins (w.called code h g channels values b))) (c.called code cell g channels values b)
  call-as g channels values b = quiet-as code n tip d who steps k.Call None (Begins (w.called code h g channels values b)) _ tt
      (begins code n (IsEnd tip) who (suc steps) path named (w.called code h g channels values b) (λ i. end-at-within (IsEnd tip) h.ends held (slice_get channels i))
      (λ i. c.end_at cell.ends (slice_get channels i)) (fun_ext (λ i. end-at-named n.end h.ends (slice_get channels i))))

  behind-as : (block : List Instr) (branch at : ℕ) (vars values : List Tree) (x : Instr) → As (w.behind code d h block branch at vars values x) (c.behind code cell block path branch at vars values x)
  behind-as block branch at vars values (i.Put x) = found-end code n tip d who steps k.Put (h.ends x) _ _ (held x)
      (λ e there. one-same code n tip d who steps k.Put values _ _ (λ v. send-as code n tip d who steps k.Put e (Word v) (onward h (at + 1) vars h.ends) (c.onward cell (at + 1) vars cell.ends) there tt (on-same (at + 1) vars)))
  behind-as block branch at vars values (i.Get x v) = found-end code n tip d who steps k.Get (h.ends x) _ _ (held x)
      (λ e there. look-as code n tip d who steps k.Get true e (w.after_get h (at + 1) vars v) (c.word_to (λ u. Some (c.onward cell (at + 1) (slice_set vars v u) cell.ends))) there (get-fits (at + 1) vars v))
  behind-as block branch at vars values (i.Pick x number) = found-end code n tip d who steps k.Pick' (h.ends x) _ _ (held x)
      (λ e there. send-as code n tip d who steps k.Pick' e (Pick number) (onward h (at + 1) vars h.ends) (c.onward cell (at + 1) vars cell.ends) there tt (on-same (at + 1) vars))
  behind-as block branch at vars values (i.Split x l r) = found-end code n tip d who steps k.Split (h.ends x) _ _ (held x)
      (λ e there. look-as code n tip d who steps k.Split true e (w.after_split h (at + 1) vars l r) (c.ends_to (λ f g. Some (c.onward cell (at + 1) vars (c.set_end r g (c.set_end l f cell.ends))))) there (split-fits (at + 1) vars l r))
  behind-as block branch at vars values (i.Close x) = found-end code n tip d who steps k.Close (h.ends x) _ _ (held x)
      (λ e there. quiet-as code n tip d who steps k.Close (Some e) (onward h (at + 1) vars h.ends) (Some (c.onward cell (at + 1) vars cell.ends)) there (on-same (at + 1) vars))
  behind-as block branch at vars values (i.Halt None) = quiet-as code n tip d who steps k.Halt None w.Gone None tt (gone-as code n (IsEnd tip) who (suc steps))
  behind-as block branch at vars values (i.Halt (Some x)) = found-end code n tip d who steps k.Halt (h.ends x) _ _ (held x)
      (λ e there. quiet-as code n tip d who steps k.Halt (Some e) w.Gone None there (gone-as code n (IsEnd tip) who (suc steps)))
  behind-as block branch at vars values (i.Offer x targets) = found-end code n tip d who steps k.Offer (h.ends x) _ _ (held x)
      (λ e there. look-as code n tip d who steps k.Offer true e (w.after_offer h vars targets) (c.pick_to (λ m. option_map (λ to. c.onward cell to vars cell.ends) (slice_get targets m))) there (offer-fits vars targets))
  behind-as block branch at vars values (i.Fork x l r to) = found-end code n tip d who steps k.Fork (h.ends x) _ _ (held x) (λ e there. fork-as (at + 1) vars e l r to there)
  behind-as block branch at vars values (i.Peel x side to) = peel-as (at + 1) vars x side to
  behind-as block branch at vars values (i.Race targets) =
      subst (λ b. As (if are_set block h.ends targets then w.chooses h block vars branch (slice_get targets branch) else w.Rests) (if b then c.chooses cell block vars branch (slice_get targets branch) else c.command (k.Choose branch) None Breaks))
      (sym (set-named n.end block h.ends targets)) (race-as block vars branch (slice_get targets branch) (are_set block h.ends targets))
  behind-as block branch at vars values (i.Case x base targets) = found-same code n tip d who steps k.Case (slice_get code.decisions x) _ _
      (λ t. found-same code n tip d who steps k.Case (chosen t.tree values) _ _
      (λ r. found-same code n tip d who steps k.Case (slice_get targets r.0) _ _
      (λ to. quiet-as code n tip d who steps k.Case None (onward h to (set_from base r.1 vars) h.ends) (Some (c.onward cell to (set_from base r.1 vars) cell.ends)) tt (on-same to (set_from base r.1 vars)))))
  behind-as block branch at vars values (i.Link x y) = link-as x y
  behind-as block branch at vars values (i.LinkNeg x y) = link-as x y
  behind-as block branch at vars values (i.Go g channels) = found-same code n tip d who steps k.Call (slice_get code.processes g) _ _ (λ b. call-as g channels values b)
  behind-as block branch at vars values (i.Int x) = inr refl
  behind-as block branch at vars values (i.Char x) = inr refl
  behind-as block branch at vars values (i.Truth x) = inr refl
  behind-as block branch at vars values i.Nil = inr refl
  behind-as block branch at vars values (i.Text x) = inr refl
  behind-as block branch at vars values (i.Load x) = inr refl
  behind-as block branch at vars values i.Cons = inr refl
  behind-as block branch at vars values i.Pair = inr refl
  behind-as block branch at vars values (i.Build x y) = inr refl
  behind-as block branch at vars values (i.Op x) = inr refl
  behind-as block branch at vars values (i.Jump x) = inr refl
  behind-as block branch at vars values (i.Unless x) = inr refl
  behind-as block branch at vars values (i.Call x) = inr refl
  behind-as block branch at vars values (i.Match x y z) = inr refl
  behind-as block branch at vars values i.Return = inr refl

  at-as : (block : List Instr) (branch at : ℕ) (vars values : List Tree) (o : Option Instr) → As (w.at_instruction code d h block branch at vars values o) (c.at_instruction code cell block path branch at vars values o)
  at-as block branch at vars values None = inr refl
  at-as block branch at vars values (Some x) = behind-as block branch at vars values x

  block-as : (branch at : ℕ) (vars values : List Tree) (o : Option Block) → As (w.in_block code d h branch at vars values o) (c.in_block code cell path branch at vars values o)
  block-as branch at vars values None = inr refl
  block-as branch at vars values (Some b) = at-as b.code branch at vars values (slice_get b.code at)

  spends-as : GoesAs code n (IsEnd tip) who (suc steps) (Spends h) (Some (c.spends cell))
  spends-as life is =
      subst (λ life. IsNode code n.end who (suc steps) life (Some (c.spends cell)) × LifeWithin (IsEnd tip) life) (sym is.1) (
        record {
          path = path;
          process = named;
          at = at0;
          vars = vars0;
          spent = suc spent;
          runs = refl;
          kept = subst (λ m. IsKept code (cell_of n.end h (suc steps) at0 vars0 m) is.0) (let e : spent + 1 ≡ suc spent = omega arith in e) (is.2 cell kept);
        },
        held,
      )

  -- what the process wants by what it keeps is what its cell wants
  pub kept-as : (branch : ℕ) (o : Kept) → As (w.kept_want code d h branch o) (kept_command code cell path branch o)
  kept-as branch (Values at vars values) = block-as branch at vars values (slice_get (blocks code) h.block)
  kept-as branch (AtCall f fs) = quiet-as code n tip d who steps k.Work None (Spends h) (Some (c.spends cell)) tt spends-as
  kept-as branch Broken = inr refl
