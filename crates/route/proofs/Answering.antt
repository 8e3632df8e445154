-- From what the search and the writing ensure to the answer in the map's coordinates. Assumes nothing.
use mathlib.Core.Path.{◌≡◌, refl, ap, sym, subst, subst₂, ◌∙◌}
use mathlib.Core.List.{List, ◌++◌, map, map-map}
use mathlib.Core.Bool.{Bool, true, false}
use Prim.Native.Nat.{ℕ, ◌+◌, ◌-◌}
use native.Mathlib.Omega.{arith}
use lib.ListN.{length, take, drop, replicate, length-map, take-append-drop}
use Rattle.model.specs.declared.PixelPosition.{PixelPosition}
use Rattle.model.specs.Steps.{Joined, IsRoute, point_word}
use Rattle.model.proofs.Ends.{route_joined}
use Rattle.model.proofs.Shifted.{Agree, shift, route_out, joined_out, joined_back}
use Rattle.marks.specs.Marks.{Unmarked}
use Rattle.search.specs.Places.{center}
use Rattle.search.specs.Search.{Sought}
use Rattle.route.specs.Trails.{Told}
use Rattle.route.specs.Answer.{Says, Clear, Shut, Answers}
use Rattle.search.specs.Places.{Blank}
use Rattle.stamps.specs.declared.Frame.{Frame}
use Rattle.std.specs.Prelude.{Option, None, Some}
use Rattle.way_back.specs.Ways.{spot}
use Rattle.way_back.proofs.Tracing.{trail_one}
use Rattle.search.proofs.Noted.{all_blank}
use Rattle.route.proofs.Zeros.{all_zeros}

-- ---- window and map
-- what the marks say of the map's centers is what they say of the window's
agree_clear : (marks : List ℕ) (f : Frame) → Agree f.left f.top (Unmarked marks f.width f.height) (Clear marks f)
agree_clear marks f = record {
  out = λ x y free.
      let ex : x ≡ f.left + x - f.left = omega arith in
      let ey : y ≡ f.top + y - f.top = omega arith in
      (omega arith, omega arith, subst₂ (Unmarked marks f.width f.height) ex ey free);
  back = λ x y free. free;
}

-- ---- what a search found
pub sought_says : {free : ℕ → ℕ → Type 0} {w s e n used : ℕ} {queue parents : List ℕ} (found : Bool) → Sought free w s e n queue parents found used → Says found (Joined free (center w s) (center w e))
sought_says true S = route_joined (S.leads refl).route
sought_says false S = λ j. S.none refl j.steps j.centers j.chain

module _ (marks : List ℕ) (f : Frame) (s e : ℕ) where
  pub shut_out : (before : List ℕ) → (Joined (Unmarked marks f.width f.height) (center f.width s) (center f.width e) → ⊥) → Shut (Clear marks f) (spot f s) (spot f e) before before
  shut_out before none = record { none = λ j. none (joined_back f.left f.top (agree_clear marks f) j); same = refl }

  pub told_answer : {n used : ℕ} {queue parents : List ℕ} {found : Bool} (before after : List ℕ) (r : Option ℕ) → Sought (Unmarked marks f.width f.height) f.width s e n queue parents found used → Told parents s e f found before after r
      → Answers (Clear marks f) (spot f s) (spot f e) before after r
  told_answer before after (Some m) S t =
      let led = S.leads t.0 in
      let W = t.1 in
      let places = W.places in
      let one = trail_one led.trail W.trail in
      let same : map (shift f.left f.top) (map (center f.width) led.places) ≡ map (spot f) places = map-map (shift f.left f.top) (center f.width) led.places ∙ ap (map (spot f)) one in
      let words : map point_word (map (spot f) places) ≡ map (λ p. point_word (spot f p)) places = map-map point_word (spot f) places in
      let many : length (map point_word (map (spot f) places)) ≡ m = ap length words ∙ length-map places (λ p. point_word (spot f p)) ∙ W.count in
      record {
        centers = map (spot f) places;
        route = subst (IsRoute (Clear marks f) (spot f s) (spot f e)) same (route_out f.left f.top (agree_clear marks f) led.route);
        count = sym (length-map places (spot f) ∙ W.count);
        words = W.words ∙ ap (λ (l : List ℕ). l ++ drop m before) (sym words) ∙ ap (λ (k : ℕ). map point_word (map (spot f) places) ++ drop k before) (sym many);
      }
  told_answer before after None S t = record {
    none = λ j. let b = joined_back f.left f.top (agree_clear marks f) j in S.none t.0 b.steps b.centers b.chain;
    same = t.1;
  }

-- an area that came as zeros and ends as zeros ends as it came
pub zeros_again : (n m : ℕ) (was now : List ℕ) → length was ≡ n → Blank n was → m ≡ length was → now ≡ replicate m 0 → now ≡ was
zeros_again n m was now long blank e zeros = zeros ∙ ap (λ (k : ℕ). replicate k 0) e ∙ sym (all_zeros was (all_blank n was long blank))

-- ---- positions and places
module _ (marks : List ℕ) (f : Frame) (s e : ℕ) {start end : PixelPosition} (at-start : spot f s ≡ start) (at-end : spot f e ≡ end) where
  pub says_out : (r : Bool) → Says r (Joined (Unmarked marks f.width f.height) (center f.width s) (center f.width e)) → Says r (Joined (Clear marks f) start end)
  says_out true j = subst₂ (Joined (Clear marks f)) at-start at-end (joined_out f.left f.top (agree_clear marks f) j)
  says_out false none = λ j. none (joined_back f.left f.top (agree_clear marks f) (subst₂ (Joined (Clear marks f)) (sym at-start) (sym at-end) j))

-- an area whose first n numbers end as they came
pub part_back : (n : ℕ) (area : List ℕ) {part : List ℕ} → part ≡ take n area → part ++ drop n area ≡ area
part_back n area e = ap (λ (l : List ℕ). l ++ drop n area) e ∙ take-append-drop n area
