-- What a play on any log leaves, from any record and any table: it ends, waiting exactly where it should, and leaves what a play to
-- its own position leaves; or it is refused and changes nothing. The tests of a play pass exactly where nothing refuses it.
use Prim.Native.Nat.{ℕ, ◌+◌, ◌-◌, ◌<◌, ◌≤◌}
use mathlib.Core.Path.{◌≡◌, refl, ap, sym, ◌∙◌, subst}
use mathlib.Core.Logic.{◌⊎◌, inl, inr}
use mathlib.Core.Bool.{Bool, true, false, not}
use mathlib.Core.List.{List, [], ◌∷◌, ◌++◌}
use mathlib.Core.Option.{Option, none, some}
use native.Mathlib.Omega.{arith}
use borrow.Author.Tests.{ltb-false, le-ltb, not-false}
use lib.Dec.{ltb}
use Rattle.lists.specs.Tests.{ors, neither, clash}
use Rattle.model.specs.Objects.{Shape, bad_set}
use Rattle.model.specs.Entries.{Log}
use Rattle.model.specs.Slot.{log_in, ok_shape}
use Rattle.model.specs.Rules.{lowest_bad}
use Rattle.model.specs.Table.{cells_of, in_order, capacity}
use Rattle.model.specs.Play.{Played, going, waits, lacks, cells_in}
use Rattle.model.specs.Answers.{Refusal, refused, refuse, refuse_at, first_of, bad_frame, frame_and_entries}
use Rattle.model.specs.Append.{Replica, bad_replica}
use Rattle.model.specs.Replica.{Left, plainly, bad_stop, play_refusal, left_by, play_given, play_from, play_call}
use Rattle.model.specs.Histories.{Lent, in_log, is_refused, Carried, play_on, hosts}
use Rattle.model.specs.Terms.{Fit, Playable, Ended, there, waiting, no_room}
use Rattle.model.specs.Claims.{Waiting, done_with, PlayLeaves}
use Rattle.model.specs.Worked.{code}
use Rattle.laws.proofs.Refusals.{not_none, all_pass, refuse-none, refuse_at-none, good-below, below-good}
use Rattle.laws.proofs.Directory.{set_words, words-set}
use Rattle.claims.proofs.Terms.{frame-words, words-frame, order-words, words-order}
use Rattle.claims.proofs.Reached.{stands_at, Reached, play-reached}
use Rattle.claims.proofs.Waits.{play-waits, play-ends}
use Rattle.claims.proofs.Rooms.{left-lacks}

-- ---- the record and the stop

pub fit_words : (sh : Shape) (tail : ℕ) (r : Carried) (stop : ℕ) → bad_replica sh tail r.replica r.table ≡ false → bad_stop tail r.replica stop ≡ false → Fit sh tail r stop
fit_words sh tail r stop b s =
    let a : bad_set sh r.replica.hosting ≡ false = search ors in
    let c : ltb (capacity r.table) r.replica.count ≡ false = search ors in
    let o : not (in_order (cells_of r.table r.replica.count)) ≡ false = search ors in
    let d : ltb tail stop ≡ false = search ors in
    let e : ltb stop r.replica.position ≡ false = search ors in
    record {
      hosting = (set_words sh r.replica.hosting a).0;
      listed = (set_words sh r.replica.hosting a).1;
      counted = ltb-false (capacity r.table) r.replica.count c;
      ordered = order-words (cells_of r.table r.replica.count) (not-false (in_order (cells_of r.table r.replica.count)) o);
      onward = ltb-false stop r.replica.position e;
      within = ltb-false tail stop d;
    }

module _ (sh : Shape) (tail : ℕ) (r : Carried) (stop : ℕ) (f : Fit sh tail r stop) where
  pub words-replica : bad_replica sh tail r.replica r.table ≡ false
  words-replica = neither (neither (neither (words-set sh r.replica.hosting f.hosting f.listed) (le-ltb (capacity r.table) r.replica.count f.counted))
      (ap not (words-order (cells_of r.table r.replica.count) f.ordered)))
      (le-ltb tail r.replica.position (omega (arith, f.onward, f.within)))

  pub words-stop : bad_stop tail r.replica stop ≡ false
  words-stop = neither (le-ltb tail stop f.within) (le-ltb stop r.replica.position f.onward)

-- ---- the tests of a play

abbrev pub number_in : Option Refusal → ℕ
number_in none = 0
number_in (some x) = x.number

-- none of its refusals is 12 or 13
abbrev pub Apart : Refusal → Type 0
Apart x = (x.number < 12) ⊎ (14 < x.number)

pub own-number : (z : Option ℕ) (a : Bool) (b : Option ℕ) (c d : Bool) (x : Refusal) → first_of (refuse_at 15 z ∷ refuse 1 a ∷ refuse_at 2 b ∷ refuse 10 c ∷ refuse 3 d ∷ []) ≡ some x → Apart x
own-number (some k) a b c d x e = let n : 15 ≡ x.number = ap number_in e in inr (omega arith)
own-number none true b c d x e = let n : 1 ≡ x.number = ap number_in e in inl (omega arith)
own-number none false (some o) c d x e = let n : 2 ≡ x.number = ap number_in e in inl (omega arith)
own-number none false none true d x e = let n : 10 ≡ x.number = ap number_in e in inl (omega arith)
own-number none false none false true x e = let n : 3 ≡ x.number = ap number_in e in inl (omega arith)
own-number none false none false false x e = not_none x (sym e)

pub neither-number : (x : Refusal) → Apart x → (n : ℕ) → 12 ≤ n → n ≤ 14 → x.number ≡ n → ⊥
neither-number x (inl l) n low high e = absurd (omega arith)
neither-number x (inr l) n low high e = absurd (omega arith)

module _ (sh : Shape) (shape : ok_shape sh ≡ true) (l : Lent) (r : Carried) (stop : ℕ) where
  abbrev log : Log
  log = in_log sh l

  abbrev tests : List (Option Refusal)
  tests = frame_and_entries sh log ++ (refuse 10 (bad_replica sh l.tail r.replica r.table) ∷ refuse 3 (bad_stop l.tail r.replica stop) ∷ [])

  pub playable-words : play_refusal sh log r.replica r.table stop ≡ none → Playable sh l r stop
  unfolding log_in
  playable-words e =
      let pass = all_pass tests e in
      record {
        directed = refuse_at-none 15 _ pass.0;
        framed = frame-words sh l (refuse-none 1 _ pass.1.0);
        good = good-below sh log (refuse_at-none 2 _ pass.1.1.0);
        fit = fit_words sh l.tail r stop (refuse-none 10 _ pass.1.1.1.0) (refuse-none 3 _ pass.1.1.1.1.0);
      }

  pub words-playable : Playable sh l r stop → play_refusal sh log r.replica r.table stop ≡ none
  unfolding log_in
  words-playable p = rw (words-frame sh shape l p.framed, below-good sh log p.good, words-replica sh l.tail r stop p.fit, words-stop sh l.tail r stop p.fit, p.directed)

  -- what such a play leaves
  pub plays-so : Playable sh l r stop → play_on sh l r stop ≡ left_by r.replica.hosting stop r.table (play_from sh log r.replica r.table stop)
  unfolding play_call
  plays-so p = ap (play_given r.replica stop r.table (play_from sh log r.replica r.table stop)) (words-playable p)

  -- ---- it reached its position with the cells that it leaves

  abbrev from : Played
  from = play_from sh log r.replica r.table stop

  left_at : (x : Played) → (left_by r.replica.hosting stop r.table x).replica.position ≡ stands_at sh log [] 0 stop x
  left_at (going cs) = refl
  left_at (waits q cs) = refl
  left_at (lacks q cs) = refl

  left-done : (x : Played) → left_by r.replica.hosting (stands_at sh log [] 0 stop x) r.table (going (cells_in x))
      ≡ done_with (left_by r.replica.hosting stop r.table x).replica (left_by r.replica.hosting stop r.table x).table
  left-done (going cs) = refl
  left-done (waits q cs) = refl
  left-done (lacks q cs) = refl

  module _ (p : Playable sh l r stop) where
    reached : Reached sh log (hosts sh r) (capacity r.table) r.replica.position (cells_of r.table r.replica.count) (stop - r.replica.position) (stands_at sh log [] 0 stop from) (cells_in from)
    reached =
        let e : r.replica.position + (stop - r.replica.position) ≡ stop = omega (arith, p.fit.onward) in
        subst (λ (n : ℕ). Reached sh log (hosts sh r) (capacity r.table) r.replica.position (cells_of r.table r.replica.count) (stop - r.replica.position) (stands_at sh log [] 0 n from) (cells_in from)) e
        (play-reached sh log (hosts sh r) (capacity r.table) r.replica.position (cells_of r.table r.replica.count) (stop - r.replica.position))

    -- a play to that position is one that nothing refuses
    pub to-there : Playable sh l r (stands_at sh log [] 0 stop from)
    to-there = record {
      directed = p.directed;
      framed = p.framed;
      good = p.good;
      fit = record {
        hosting = p.fit.hosting;
        listed = p.fit.listed;
        counted = p.fit.counted;
        ordered = p.fit.ordered;
        onward = reached.from;
        within = omega (arith, reached.to, p.fit.onward, p.fit.within);
      };
    }

-- a play to its own position is done, and leaves the same
stays-there : (sh : Shape) → ok_shape sh ≡ true → (l : Lent) (r : Carried) (stop : ℕ) → Playable sh l r stop
    → play_on sh l r (play_on sh l r stop).replica.position ≡ done_with (play_on sh l r stop).replica (play_on sh l r stop).table
stays-there sh shape l r stop p =
    let out : Left = left_by r.replica.hosting stop r.table (from sh shape l r stop) in
    let same : play_on sh l r stop ≡ out = plays-so sh shape l r stop p in
    let at : ℕ = stands_at sh (in_log sh l) [] 0 stop (from sh shape l r stop) in
    ap (λ (x : Left). play_on sh l r x.replica.position) same
    ∙ ap (play_on sh l r) (left_at sh shape l r stop (from sh shape l r stop))
    ∙ plays-so sh shape l r at (to-there sh shape l r stop p)
    ∙ ap (left_by r.replica.hosting at r.table) (reached sh shape l r stop p).by
    ∙ left-done sh shape l r stop (from sh shape l r stop)
    ∙ ap (λ (x : Left). done_with x.replica x.table) (sym same)

-- ---- a play that is refused

not-ended : (stop : ℕ) (x : Refusal) (r : Replica) (table : List ℕ) → Apart x → Ended stop (record { answer = refused x; replica = r; table = table }) → ⊥
not-ended stop x r table l (there e h) = clash true refl (ap is_refused e)
not-ended stop x r table l (waiting e h) = neither-number x l 12 (omega arith) (omega arith) (ap code e)
not-ended stop x r table l (no_room e h) = neither-number x l 13 (omega arith) (omega arith) (ap code e)

pub play-leaves : (sh : Shape) → ok_shape sh ≡ true → (l : Lent) (r : Carried) (stop : ℕ) → PlayLeaves sh l r stop (play_on sh l r stop)
unfolding play_call log_in
play-leaves sh shape l r stop = go (play_refusal sh (in_log sh l) r.replica r.table stop) refl
  where
    go : (x : Option Refusal) → play_refusal sh (in_log sh l) r.replica r.table stop ≡ x → PlayLeaves sh l r stop (play_on sh l r stop)
    go none e =
        let p : Playable sh l r stop = playable-words sh shape l r stop e in
        record {
          ends = ((λ x. p), (λ x. rw (plays-so sh shape l r stop p) (play-ends sh (in_log sh l) (hosts sh r) (capacity r.table) r.replica.hosting r.replica.position stop r.table (cells_of r.table r.replica.count) p.fit.onward)));
          unchanged = λ h. absurd (h p);
          stopped = stays-there sh shape l r stop;
          waits = rw (plays-so sh shape l r stop p) (play-waits sh (in_log sh l) (hosts sh r) (capacity r.table) (Playable sh l r stop) p r.replica.hosting r.replica.position stop r.table (cells_of r.table r.replica.count) p.fit.onward);
          lacks = rw (plays-so sh shape l r stop p) (left-lacks sh (in_log sh l) (hosts sh r) (capacity r.table) r.replica.hosting r.replica.position stop r.table (cells_of r.table r.replica.count));
        }
    go (some x) e =
        let same : play_on sh l r stop ≡ record { answer = refused x; replica = r.replica; table = r.table } =
        ap (play_given r.replica stop r.table (play_from sh (in_log sh l) r.replica r.table stop)) e in
        let low : Apart x = own-number sh.fault (bad_frame sh.layout (in_log sh l)) (lowest_bad sh (in_log sh l)) (bad_replica sh l.tail r.replica r.table) (bad_stop l.tail r.replica stop) x e in
        let no : Playable sh l r stop → ⊥ = λ p. not_none x (sym e ∙ words-playable sh shape l r stop p) in
        record {
          ends = ((λ h. absurd (not-ended stop x r.replica r.table low (subst (Ended stop) same h))), (λ p. absurd (no p)));
          unchanged = λ h. (ap (λ (y : Left). y.replica) same, ap (λ (y : Left). y.table) same);
          stopped = λ p. absurd (no p);
          waits = record {
            exactly = ((λ h. absurd (neither-number x low 12 (omega arith) (omega arith) (ap code (ap (λ (y : Left). y.answer) (sym same) ∙ h)))), (λ h. absurd (no h.0)));
            passes = λ p. absurd (no p);
            not_back = λ p. absurd (no p);
          };
          lacks = λ h. absurd (neither-number x low 13 (omega arith) (omega arith) (ap code (ap (λ (y : Left). y.answer) (sym same) ∙ h)));
        }

-- what makes a play one that nothing refuses, in other words
pub refit : (sh : Shape) (a b : Type 0) (log : Log) (set : List ℕ) (from stop : ℕ) (out : Left) → (a → b) → (b → a) → Waiting sh a log set from stop out → Waiting sh b log set from stop out
refit sh a b log set from stop out f g w = record {
  exactly = ((λ e. let h = w.exactly.0 e in (f h.0, h.1, h.2)), (λ h. w.exactly.1 (g h.0, h.1, h.2)));
  passes = λ x. w.passes (g x);
  not_back = λ x. w.not_back (g x);
}

-- a play that answers 12 or 13 is one that nothing refuses
pub answered : (sh : Shape) → ok_shape sh ≡ true → (l : Lent) (r : Carried) (stop n : ℕ) → 12 ≤ n → n ≤ 14 → (play_on sh l r stop).answer ≡ plainly n → Playable sh l r stop
unfolding play_call log_in
answered sh shape l r stop n low high h = go (play_refusal sh (in_log sh l) r.replica r.table stop) refl
  where
    go : (x : Option Refusal) → play_refusal sh (in_log sh l) r.replica r.table stop ≡ x → Playable sh l r stop
    go none e = playable-words sh shape l r stop e
    go (some x) e =
        let apart : Apart x = own-number sh.fault (bad_frame sh.layout (in_log sh l)) (lowest_bad sh (in_log sh l)) (bad_replica sh l.tail r.replica r.table) (bad_stop l.tail r.replica stop) x e in
        let same : refused x ≡ plainly n =
        sym (ap (λ (y : Option Refusal). (play_given r.replica stop r.table (play_from sh (in_log sh l) r.replica r.table stop) y).answer) e) ∙ h in
        absurd (neither-number x apart n low high (ap code same))
