-- The hits of calls that are run one after the other.
use Rattle.std.proofs.Common.{◌≡◌, ℕ, ◌+◌, Bool, true, false, List, [], ◌∷◌, ◌++◌, length, length-append, append-nil, append_assoc, zero, suc, get_or, ◌<◌, refl, sym, ap, ◌∙◌, arith}
use Rattle.std.specs.List.{flat_map}
use Rattle.std.proofs.lemmas.Grind.{flat_map-append}
use Rattle.std.proofs.lemmas.List.Elements.{All-append, All-nil}
use Rattle.es_edge.specs.Moves.{Input, Gives}
use Rattle.es_edge.proofs.MoveLemmas.{Gives-then, Gives-none}
use Rattle.es_wire.specs.declared.request.RawRequest.{RawRequest}
use Rattle.es_wire.specs.declared.conn.Next.TheVariants as next
use Rattle.es_wire.specs.declared.receipt.Receipt.{Receipt}
use Rattle.es_wire.specs.Next.{NextOf}
use Rattle.es_wire.specs.Requests.{Message, IsMessage, print_message, raw_of}
use Rattle.es_session.specs.Legal.{given_of}
use Rattle.es_vault.specs.World.{opening_world, replay}
use Rattle.es_vault.specs.Answer.{Asked}
use Rattle.es_vault.specs.Vault.{VaultValue}
use Rattle.es_job.specs.Steps.{begun, most_steps}
use Rattle.es_drive.specs.Answer.{call_of}
use Rattle.es_drive.specs.Turns.{caller, turn_for}
use Rattle.es_drive.specs.Hits.{left_by, left_by_all, calls_with, HasHits, opened_vault}
use Rattle.es_drive.specs.Tallies.{TalliesOne, Tallies, TalliesOn, TalliesIn}

-- ---- calls one after the other

calls_then : (ms ns : List Message) (rs ts : List Receipt) → length ms ≡ length rs → calls_with (ms ++ ns) (rs ++ ts) ≡ calls_with ms rs ++ calls_with ns ts
calls_then [] ns [] ts same = refl
calls_then [] ns (r ∷ rs) ts same = absurd (omega arith)
calls_then (m ∷ ms) ns [] ts same = absurd (omega arith)
calls_then (m ∷ ms) ns (r ∷ rs) ts same = ap (λ (x : List Asked). call_of caller (raw_of m) (given_of r) ∷ x) (calls_then ms ns rs ts (omega arith))

vault_then : (vault : VaultValue) (xs ys : List Asked) → (left_by_all vault (xs ++ ys)).vault ≡ (left_by_all (left_by_all vault xs).vault ys).vault
unfolding left_by_all
vault_then vault [] ys = refl
vault_then vault (x ∷ xs) ys = vault_then (left_by most_steps vault x begun).vault xs ys

hits_then : (vault : VaultValue) (xs ys : List Asked) → (left_by_all vault (xs ++ ys)).hits ≡ (left_by_all vault xs).hits + (left_by_all (left_by_all vault xs).vault ys).hits
unfolding left_by_all
hits_then vault [] ys = omega arith
hits_then vault (x ∷ xs) ys =
    let more = hits_then (left_by most_steps vault x begun).vault xs ys in
    omega arith

one_vault : (vault : VaultValue) (x : Asked) → (left_by_all vault (x ∷ [])).vault ≡ (left_by most_steps vault x begun).vault
unfolding left_by_all
one_vault vault x = refl

one_hits : (vault : VaultValue) (x : Asked) → (left_by_all vault (x ∷ [])).hits ≡ (left_by most_steps vault x begun).hits
unfolding left_by_all
one_hits vault x = omega arith

none_hits : (vault : VaultValue) → (left_by_all vault []).hits ≡ 0
unfolding left_by_all
none_hits vault = refl

none_vault : (vault : VaultValue) → vault ≡ (left_by_all vault []).vault
unfolding left_by_all
none_vault vault = refl

-- ---- turns

-- no request was answered
pub tallies_none : (vault : VaultValue) (pending : List ℕ) (old new : Input) (rs rs' : List Receipt) (hits hits' : ℕ) (read : List ℕ) → Gives old new read → rs' ≡ rs → hits' ≡ hits
    → Tallies vault pending old new rs rs' hits hits'
tallies_none vault pending old new rs rs' hits hits' read gave kept same = record {
  read = read;
  messages = [];
  added = [];
  rest = pending ++ read;
  gave = gave;
  whole = refl;
  each = All-nil IsMessage;
  all = refl;
  receipts = kept ∙ sym (append-nil rs);
  hits_are = let none = none_hits vault in omega arith;
}

one_is : (m : Message) → IsMessage m → (k : ℕ) (d : Message) → k < 1 → IsMessage (get_or (m ∷ []) k d)
one_is m is zero d lt = is
one_is m is (suc k) d lt = absurd (omega arith)

module _ {vault vault' : VaultValue} {pending pending' : List ℕ} {old new : Input} {rs rs' : List Receipt} {hits hits' : ℕ} {raw : RawRequest}
    (next : NextOf pending pending' old new (next.Request raw)) (one : TalliesOne vault vault' raw rs rs' hits hits') where
  abbrev its_call : Asked
  its_call = call_of caller (raw_of next.answers.0) (given_of one.receipt)

  same_call : call_of caller raw (given_of one.receipt) ≡ its_call
  same_call = ap (λ (x : RawRequest). call_of caller x (given_of one.receipt)) next.answers.2

  one_tally : Tallies vault pending old new rs rs' hits hits'
  one_tally = record {
    read = next.read;
    messages = next.answers.0 ∷ [];
    added = one.receipt ∷ [];
    rest = pending';
    gave = next.given;
    whole = next.answers.1.1 ∙ ap (λ (x : List ℕ). x ++ pending') (sym (append-nil (print_message next.answers.0)));
    each = λ k d lt. one_is next.answers.0 next.answers.1.0 k d lt;
    all = refl;
    receipts = one.receipts;
    hits_are = one.hits_are ∙ ap (λ (x : Asked). hits + (left_by most_steps vault x begun).hits) same_call ∙ ap (λ (n : ℕ). hits + n) (sym (one_hits vault its_call));
  }

  one_on : TalliesOn vault vault' pending pending' old new rs rs' hits hits'
  unfolding one_tally
  one_on = record {
    tally = one_tally;
    rest_is = refl;
    vault_is = one.vault_is ∙ ap (λ (x : Asked). (left_by most_steps vault x begun).vault) same_call ∙ sym (one_vault vault its_call);
  }

  turn_of : (last : Bool) → TalliesIn vault vault' pending pending' old new rs rs' hits hits' (turn_for last)
  turn_of true = one_on
  turn_of false = one_on

  -- one request was answered, and its response written
  pub tallies_turn : TalliesIn vault vault' pending pending' old new rs rs' hits hits' (turn_for raw.last)
  tallies_turn = turn_of raw.last

  -- its response wasn't written whole
  pub tallies_one : Tallies vault pending old new rs rs' hits hits'
  tallies_one = one_tally

-- ---- the loop

-- the loop begins
pub tallies_begun : (vault : VaultValue) (pending : List ℕ) (a : Input) (rs : List Receipt) (hits : ℕ) → rs ≡ [] → hits ≡ 0 → TalliesOn vault vault pending pending a a [] rs 0 hits
tallies_begun vault pending a rs hits none same = record {
  tally = record {
    read = [];
    messages = [];
    added = [];
    rest = pending;
    gave = Gives-none a;
    whole = append-nil pending;
    each = All-nil IsMessage;
    all = refl;
    receipts = none;
    hits_are = let no_call = none_hits vault in omega arith;
  };
  rest_is = refl;
  vault_is = none_vault vault;
}

-- what was counted so far
pub tallies_so_far : {vault vault' : VaultValue} {p q : List ℕ} {a b : Input} {rs ts : List Receipt} {hits hits' : ℕ} → TalliesOn vault vault' p q a b rs ts hits hits' → Tallies vault p a b rs ts hits hits'
tallies_so_far on = on.tally

whole_then : (p r t s u : List ℕ) (q : List ℕ) (ms ns : List Message) → p ++ r ≡ flat_map print_message ms ++ q → q ++ t ≡ flat_map print_message ns ++ s
    → p ++ (r ++ t) ≡ flat_map print_message (ms ++ ns) ++ s
whole_then p r t s u q ms ns first second =
    sym (append_assoc p r t) ∙ ap (λ (x : List ℕ). x ++ t) first ∙ append_assoc (flat_map print_message ms) q t
    ∙ ap (λ (x : List ℕ). flat_map print_message ms ++ x) second ∙ sym (append_assoc (flat_map print_message ms) (flat_map print_message ns) s)
    ∙ ap (λ (x : List ℕ). x ++ s) (sym (flat_map-append print_message ms ns))

module _ {vault vault' : VaultValue} {p q : List ℕ} {a b c : Input} {rs ts us : List Receipt} {hits hits' hits'' : ℕ}
    (on : TalliesOn vault vault' p q a b rs ts hits hits') where
  both_calls : (tally : Tallies vault' q b c ts us hits' hits'') → calls_with (on.tally.messages ++ tally.messages) (on.tally.added ++ tally.added)
      ≡ calls_with on.tally.messages on.tally.added ++ calls_with tally.messages tally.added
  both_calls tally = calls_then on.tally.messages tally.messages on.tally.added tally.added on.tally.all

  -- the loop ends
  pub tallies_end : Tallies vault' q b c ts us hits' hits'' → Tallies vault p a c rs us hits hits''
  tallies_end tally = record {
    read = on.tally.read ++ tally.read;
    messages = on.tally.messages ++ tally.messages;
    added = on.tally.added ++ tally.added;
    rest = tally.rest;
    gave = Gives-then on.tally.gave tally.gave;
    whole = whole_then p on.tally.read tally.read tally.rest [] q on.tally.messages tally.messages (on.tally.whole ∙ ap (λ (x : List ℕ). flat_map print_message on.tally.messages ++ x) on.rest_is) tally.whole;
    each = All-append IsMessage on.tally.messages tally.messages on.tally.each tally.each;
    all = length-append on.tally.messages tally.messages ∙ (λ i. on.tally.all i + tally.all i) ∙ sym (length-append on.tally.added tally.added);
    receipts = tally.receipts ∙ ap (λ (x : List Receipt). x ++ tally.added) on.tally.receipts ∙ append_assoc rs on.tally.added tally.added;
    hits_are =
        let calls = calls_with on.tally.messages on.tally.added in
        let more = calls_with tally.messages tally.added in
        let sum : (left_by_all vault (calls_with (on.tally.messages ++ tally.messages) (on.tally.added ++ tally.added))).hits ≡ (left_by_all vault calls).hits + (left_by_all vault' more).hits =
        ap (λ (x : List Asked). (left_by_all vault x).hits) (both_calls tally) ∙ hits_then vault calls more
        ∙ ap (λ (x : VaultValue). (left_by_all vault calls).hits + (left_by_all x more).hits) (sym on.vault_is) in
        let first = on.tally.hits_are in
        let second = tally.hits_are in
        omega arith;
  }

  -- the loop goes on
  pub tallies_more : {vault'' : VaultValue} {s : List ℕ} → TalliesOn vault' vault'' q s b c ts us hits' hits'' → TalliesOn vault vault'' p s a c rs us hits hits''
  unfolding tallies_end
  tallies_more {vault''} {s} more = record {
    tally = tallies_end more.tally;
    rest_is = more.rest_is;
    vault_is = more.vault_is ∙ ap (λ (x : VaultValue). (left_by_all x (calls_with more.tally.messages more.tally.added)).vault) on.vault_is
        ∙ sym (vault_then vault (calls_with on.tally.messages on.tally.added) (calls_with more.tally.messages more.tally.added))
        ∙ ap (λ (x : List Asked). (left_by_all vault x).vault) (sym (both_calls more.tally));
  }

-- ---- the connection

-- the whole connection, on the vault that it was opened on
pub all_hits : (vault opened : VaultValue) (a b : Input) (p : List ℕ) (rs ts : List Receipt) (hits : ℕ) → Tallies vault p a b [] rs 0 hits → p ≡ [] → vault ≡ opened → ts ≡ rs
    → HasHits opened a b ts hits
all_hits vault opened a b p rs ts hits tally none same kept = record {
  read = tally.read;
  messages = tally.messages;
  rest = tally.rest;
  gave = tally.gave;
  whole = ap (λ (x : List ℕ). x ++ tally.read) (sym none) ∙ tally.whole;
  each = tally.each;
  all = tally.all ∙ ap length (sym tally.receipts ∙ sym kept);
  hits_are =
      let sum = tally.hits_are in
      let total : hits ≡ (left_by_all vault (calls_with tally.messages tally.added)).hits = omega arith in
      total ∙ ap (λ (x : VaultValue). (left_by_all x (calls_with tally.messages tally.added)).hits) same
      ∙ ap (λ (x : List Receipt). (left_by_all opened (calls_with tally.messages x)).hits) (sym tally.receipts ∙ sym kept);
}

-- a connection that wasn't opened
pub no_hits : (vault : VaultValue) (a : Input) (rs : List Receipt) (hits : ℕ) → rs ≡ [] → hits ≡ 0 → HasHits vault a a rs hits
no_hits vault a rs hits none no_call = record {
  read = [];
  messages = [];
  rest = [];
  gave = Gives-none a;
  whole = refl;
  each = All-nil IsMessage;
  all = ap length (sym none);
  hits_are = no_call ∙ sym (none_hits vault);
}

-- the vault that a node opens with
pub vault_opened : (secret : List ℕ) (limit capacity : ℕ) (vault : VaultValue) → vault.at ≡ record { world = opening_world secret; place = 1; weight = 0 } → vault.limit ≡ limit → vault.roles ≡ record { entries = []; count = 0; capacity = capacity }
    → vault ≡ opened_vault secret limit capacity
unfolding replay
vault_opened secret limit capacity vault at limit_is roles = λ i. record { at = at i; limit = limit_is i; roles = roles i }
