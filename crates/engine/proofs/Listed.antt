-- That list writes the contents, key by key. Assumes nothing.
use Rattle.std.proofs.Common.{◌≡◌, ℕ, ◌+◌, ◌-◌, ◌<◌, ◌≤◌, List, [], ◌∷◌, ◌++◌, length, take, drop, set, sym, ap, ◌∙◌, arith}
use Rattle.std.proofs.lemmas.List.{append-nil, append_assoc, take-append-drop, take_more_set, drop-drop, drop-set-lt, length-take-le}
use Rattle.records.specs.declared.record.Place.{Place}
use Rattle.engine.specs.Walking.{keys_from}
use Rattle.engine.proofs.Walked.{keys_within}

module _ {K : Type 0} (ps : List (Place K)) (from : ℕ) (given : List K) where
  -- The keys behind the walk stand in front, and those ahead of it are still to come; the rest is as it was given.
  pub record Copied (turn at count : ℕ) (keys : List K) : Type 0 where
    pub written : take count keys ++ keys_within ps (length ps - turn) at ≡ keys_from ps from
    pub rest : drop count keys ≡ drop count given

  module _ (turn at count : ℕ) (keys : List K) (copied : Copied turn at count keys) where
    pub copies_nothing : (next : ℕ) → keys_within ps (length ps - turn) at ≡ keys_within ps (length ps - (turn + 1)) next → Copied (turn + 1) next count keys
    copies_nothing next left = record { written = ap (λ ks. take count keys ++ ks) (sym left) ∙ copied.written; rest = copied.rest }

    pub copies_key : (next : ℕ) (k : K) → count < length keys → keys_within ps (length ps - turn) at ≡ k ∷ keys_within ps (length ps - (turn + 1)) next
        → Copied (turn + 1) next (count + 1) (set keys count k)
    copies_key next k room left = record {
      written = ap (λ ks. ks ++ keys_within ps (length ps - (turn + 1)) next) (take_more_set keys count k room)
          ∙ append_assoc (take count keys) (k ∷ []) (keys_within ps (length ps - (turn + 1)) next)
          ∙ ap (λ ks. take count keys ++ ks) (sym left)
          ∙ copied.written;
      rest = drop-set-lt (count + 1) keys count k (omega arith) ∙ sym (drop-drop 1 count keys) ∙ ap (drop 1) copied.rest ∙ drop-drop 1 count given;
    }

    pub all_copied : keys_within ps (length ps - turn) at ≡ [] → count ≤ length keys → keys ≡ keys_from ps from ++ drop (length (keys_from ps from)) given
    all_copied none room =
        let front : take count keys ≡ keys_from ps from = sym (append-nil (take count keys)) ∙ ap (λ ks. take count keys ++ ks) (sym none) ∙ copied.written in
        let many : length (keys_from ps from) ≡ count = ap length (sym front) ∙ length-take-le count keys room in
        sym (take-append-drop count keys)
        ∙ ap (λ ks. ks ++ drop count keys) front
        ∙ ap (λ ks. keys_from ps from ++ ks) (copied.rest ∙ ap (λ n. drop n given) (sym many))
