-- Runs that go on with more calls.
use Rattle.std.proofs.Common.{◌≡◌, ◌∙◌, refl, sym, ap, subst, arith, ℕ, zero, suc, ◌+◌, List}
use Rattle.campl_value.specs.Tree.{Tree}
use Rattle.campl_evaluation.specs.Evaluation.{Answer}
use Rattle.campl_code.specs.Instructions.{Code}
use Rattle.campl_code.specs.Frames.{Frame}
use Rattle.campl_code.specs.Machine.{Next, Goes, Enters, Gives, Breaks, step}
use Rattle.campl_code.specs.Runs.{Outcome, Gave, Broke, Pauses, Short, goes_on, run, Says, Follows, IsOver}

-- a run that is over ends alike, however many instructions it may make
pub settled : (code : Code) (j k : ℕ) (f : Frame) (fs : List Frame) (m : ℕ) → IsOver (run code j f fs m) → IsOver (run code k f fs m) → run code j f fs m ≡ run code k f fs m
settled code zero k f fs m x y = absurd x
settled code (suc j) zero f fs m x y = absurd y
settled code (suc j) (suc k) f fs m x y = go (settled code j k) (step code f fs) m x y
  where
    go : ((f : Frame) (fs : List Frame) (m : ℕ) → IsOver (run code j f fs m) → IsOver (run code k f fs m) → run code j f fs m ≡ run code k f fs m) → (n : Next) (m : ℕ) → IsOver (goes_on n f fs (run code j) m) → IsOver (goes_on n f fs (run code k) m) → goes_on n f fs (run code j) m ≡ goes_on n f fs (run code k) m
    go again (Goes g gs) m x y = again g gs m x y
    go again (Enters g gs) zero x y = refl
    go again (Enters g gs) (suc m) x y = again g gs m x y
    go again (Gives h vs) m x y = refl
    go again (Breaks b) m x y = refl

-- after a pause the run goes on as it would have gone with these calls besides
resumes : (code : Code) (k j : ℕ) (f : Frame) (fs : List Frame) (m n : ℕ) (g : Frame) (gs : List Frame) → run code k f fs m ≡ Pauses g gs → IsOver (run code j f fs (m + n)) → (i : ℕ) × (run code j f fs (m + n) ≡ run code i g gs n)
resumes code zero j f fs m n g gs h over = absurd (cc h)
resumes code (suc k) zero f fs m n g gs h over = absurd over
resumes code (suc k) (suc j) f fs m n g gs h over = go (λ f fs m. resumes code k j f fs m n g gs) (step code f fs) refl m h over
  where
    go : ((f : Frame) (fs : List Frame) (m : ℕ) → run code k f fs m ≡ Pauses g gs → IsOver (run code j f fs (m + n)) → (i : ℕ) × (run code j f fs (m + n) ≡ run code i g gs n)) → (x : Next) → step code f fs ≡ x → (m : ℕ) → goes_on x f fs (run code k) m ≡ Pauses g gs → IsOver (goes_on x f fs (run code j) (m + n)) → (i : ℕ) × (goes_on x f fs (run code j) (m + n) ≡ run code i g gs n)
    go again (Goes f' fs') e m h over = again f' fs' m h over
    go again (Enters f' fs') e zero h over =
        let z : 0 + n ≡ n = omega arith in
        let same_f : f ≡ g = cc h in
        let same_fs : fs ≡ gs = cc h in
        (suc j, ap (λ i. goes_on (Enters f' fs') f fs (run code j) i) z ∙ sym (ap (λ x. goes_on x f fs (run code j) n) e) ∙ ap (λ (f : Frame). run code (suc j) f fs n) same_f ∙ ap (λ (fs : List Frame). run code (suc j) g fs n) same_fs)
    go again (Enters f' fs') e (suc m) h over =
        let z : suc m + n ≡ suc (m + n) = omega arith in
        let q = ap (λ i. goes_on (Enters f' fs') f fs (run code j) i) z in
        let r = again f' fs' m h (subst IsOver q over) in
        (r.0, q ∙ r.1)
    go again (Gives f' vs) e m h over = absurd (cc h)
    go again (Breaks b) e m h over = absurd (cc h)

over-says : (o : Outcome) (a : Answer (List Tree)) → Says o a → IsOver o
over-says (Gave at vars vs n) a s = tt
over-says (Broke b n) a s = tt
over-says (Pauses f fs) a s = tt
over-says Short a s = absurd s

pub resumed : (code : Code) (f : Frame) (fs : List Frame) (spent : ℕ) (whole : ℕ → Answer (List Tree)) (k m : ℕ) (g : Frame) (gs : List Frame) → Follows code f fs spent whole → run code k f fs m ≡ Pauses g gs → Follows code g gs (spent + m) whole
resumed code f fs spent whole k m g gs follows h n =
    let x = follows (m + n) in
    let r = resumes code k x.0 f fs m n g gs h (over-says (run code x.0 f fs (m + n)) (whole (spent + (m + n))) x.1) in
    let z : spent + (m + n) ≡ spent + m + n = omega arith in
    (r.0, subst (λ (i : ℕ). Says (run code r.0 g gs n) (whole i)) z (subst (λ o. Says o (whole (spent + (m + n)))) r.1 x.1))

-- whenever it is over, it says so
pub over-follows : (code : Code) (f : Frame) (fs : List Frame) (spent : ℕ) (whole : ℕ → Answer (List Tree)) (k m : ℕ) → Follows code f fs spent whole → IsOver (run code k f fs m) → Says (run code k f fs m) (whole (spent + m))
over-follows code f fs spent whole k m follows over =
    let x = follows m in
    subst (λ o. Says o (whole (spent + m))) (settled code x.0 k f fs m (over-says (run code x.0 f fs m) (whole (spent + m)) x.1) over) x.1

-- what the paused run does with more calls, the whole run does with all of them
pub continues : (code : Code) (k j : ℕ) (f : Frame) (fs : List Frame) (m n : ℕ) (g : Frame) (gs : List Frame) → run code k f fs m ≡ Pauses g gs → (i : ℕ) × (run code i f fs (m + n) ≡ run code j g gs n)
continues code zero j f fs m n g gs h = absurd (cc h)
continues code (suc k) j f fs m n g gs h = go (λ f fs m. continues code k j f fs m n g gs) (step code f fs) refl m h
  where
    go : ((f : Frame) (fs : List Frame) (m : ℕ) → run code k f fs m ≡ Pauses g gs → (i : ℕ) × (run code i f fs (m + n) ≡ run code j g gs n)) → (x : Next) → step code f fs ≡ x → (m : ℕ) → goes_on x f fs (run code k) m ≡ Pauses g gs
        → (i : ℕ) × (run code i f fs (m + n) ≡ run code j g gs n)
    go again (Goes f' fs') e m h = let r = again f' fs' m h in (suc r.0, ap (λ x. goes_on x f fs (run code r.0) (m + n)) e ∙ r.1)
    go again (Enters f' fs') e zero h =
        let z : 0 + n ≡ n = omega arith in
        let same_f : f ≡ g = cc h in
        let same_fs : fs ≡ gs = cc h in
        (j, ap (λ i. run code j f fs i) z ∙ ap (λ (f : Frame). run code j f fs n) same_f ∙ ap (λ (fs : List Frame). run code j g fs n) same_fs)
    go again (Enters f' fs') e (suc m) h =
        let z : suc m + n ≡ suc (m + n) = omega arith in
        let r = again f' fs' m h in
        (suc r.0, ap (λ x. goes_on x f fs (run code r.0) (suc m + n)) e ∙ ap (λ i. goes_on (Enters f' fs') f fs (run code r.0) i) z ∙ r.1)
    go again (Gives f' vs) e m h = absurd (cc h)
    go again (Breaks b) e m h = absurd (cc h)
