-- A step of the walk along the moved node's edges: it leaves what the network's `combine` gives. Assumes nothing.
use mathlib.Core.Path.{◌≡◌, refl, sym, ap, ◌∙◌, subst}
use mathlib.Core.Logic.{◌⊎◌, inl, inr, ⊎_elim}
use mathlib.Core.Bool.{Bool, true, false, not, ◌&&◌, true≢false}
use mathlib.Core.List.{List, map}
use mathlib.Core.Option.{Option, none, some}
use Rattle.std.specs.Prelude as Prelude
use Rattle.std.specs.Prelude.{Some, None}
use Prim.Native.Nat.{ℕ, ◌+◌, ◌*◌, ◌-◌, ◌/◌, ◌<◌}
use native.Mathlib.Omega.{arith}
use lib.Dec.{eqb}
use lib.Ieee.{Float, binary32, add}
use lib.ListN.{get_or}
use borrow.Author.Tests.{eqb-true, eqb-false, ne_eqb, lt-ltb}
use Rattle.lists.specs.Seq.{upto}
use Rattle.network.specs.Network.{Edge, Link, find, absorb, absent, hand}
use Rattle.merge.specs.Inside.Tables.{Tables, Sound}
use Rattle.merge.specs.Inside.Table.{weight, bridged, enext, stamp, elen}
use Rattle.merge.specs.Inside.Steps.{turned, face_at, mate, absorb_at, attach_at, join_edge, moved_edge, take_edge}
use Rattle.merge.specs.Inside.Chain.{cur}
use Rattle.network.specs.Inside.Net.{edge_of, edge_now, Like}
use Rattle.merge.proofs.SoundSet.{eq_or_ne}
use Rattle.merge.proofs.SoundSteps.{sound_face}
use Rattle.merge.proofs.Mates.{Mate, mate_is, mate_finds}
use Rattle.merge.proofs.Frames.{frame_face, frame_absorb, frame_attach}
use Rattle.network.proofs.Lookup.{hit, Hit, hit_is, find_one, find_no}
use Rattle.network.proofs.TableEdges.{like_of, like_dead, like_then, like_at, word_live, dead_word, Words, words, moved_none, moved_else, absorb_gone, absorb_kept, absorb_grown, attach_kept, attach_new}
use Rattle.network.proofs.Facing.{now_live, now_straight, now_by, Stands, stands, face_now, face_straight, mate_now, absorb_turned, attach_turned, attach_straight}
use Rattle.network.proofs.Moved.{Setting, Middle, Grounds, only, mid, also, also_old, also_new, also_else, mid_base, mid_moved, mid_else, mid_dead, absorb_live, absorb_first, absorb_second, absorb_none, before, moved_is, alone, none_yet, found_now, found_else}

module _ (m b v g : ℕ) (P Q : ℕ → Edge) (S : Setting m b v g P Q) (N L T : List ℕ) (G : Grounds m b P N L T) where
  -- facing an edge changes nothing of this
  middle_face : (n : ℕ) (s : Tables) (done : ℕ → Bool) (f : ℕ) → Sound m n s → f < m → Middle m b v P Q N L T done s → Middle m b v P Q N L T done (face_at s f)
  middle_face n s done f h lt I = record {
    like = λ j hj. like_at _ _ _ (face_now m n s h f lt j) (I.like j hj);
    links = (frame_face s f).at enext ∙ I.links;
    lens = (frame_face s f).at elen ∙ I.lens;
    stamps = (frame_face s f).at stamp ∙ I.stamps;
  }

  -- edge q is the base's to c, as prepared
  record Partner (s : Tables) (c q : ℕ) : Type 0 where
    q_live : (P q).live ≡ true
    q_first : (P q).first ≡ b
    q_second : (P q).second ≡ c
    q_now : edge_now s q ≡ P q

  -- ---- the step at an edge f of the moved node that is not done
  module _ (n : ℕ) (s : Tables) (sound : Sound m n s) (done : ℕ → Bool) (I : Middle m b v P Q N L T done s)
      (f : ℕ) (lt : f < m) (l : (P f).live ≡ true) (e : (P f).first ≡ v) (todo : done f ≡ false) where
    abbrev c₀ : ℕ
    c₀ = (P f).second

    now : edge_now s f ≡ Q f
    now = (I.like f lt).whole (ap (λ (x : Edge). x.live) (mid_moved m b v g P Q S done f false e todo) ∙ S.alike f ∙ l) ∙ mid_moved m b v g P Q S done f false e todo

    weighs : get_or (s.at weight) f 0 ≡ (P f).link.weight
    weighs = (stands s f (Q f) now (S.alike f ∙ l)).weight_is ∙ (before m b v g P Q S f lt l e).weigh

    spans : get_or (s.at bridged) f 0 ≡ (P f).link.bridged
    spans = (stands s f (Q f) now (S.alike f ∙ l)).bridged_is ∙ (before m b v g P Q S f lt l e).span

    me : Hit v c₀ (P f)
    me = record { live = l; first = e; second = refl }

    older : get_or (s.at stamp) c₀ 0 < get_or (s.at stamp) b 0
    older = subst (λ (t : List ℕ). get_or t c₀ 0 < get_or t b 0) (sym I.stamps) (G.newest c₀ (S.turned f lt l).0)

    partner : (q : ℕ) → Mate m b s c₀ q → Partner s c₀ q
    partner q t = go (eqb b (P q).first) refl (eqb v (P q).first) refl (done q) refl (P q).live refl
      where
        hq : q < m
        hq = t.q_in

        alive : (edge_now s q).live ≡ true
        alive = now_live s q ∙ word_live s q t.live

        mid_alive : (mid m b v P Q done q).live ≡ true
        mid_alive = sym (I.like q hq).live ∙ alive

        is : edge_now s q ≡ mid m b v P Q done q
        is = (I.like q hq).whole mid_alive

        first_b : (mid m b v P Q done q).first ≡ b
        first_b = sym (ap (λ (x : Edge). x.first) is) ∙ (mate_now m b s c₀ q t older).0

        second_c : (mid m b v P Q done q).second ≡ c₀
        second_c = sym (ap (λ (x : Edge). x.second) is) ∙ (mate_now m b s c₀ q t older).1

        go : (x : Bool) → eqb b (P q).first ≡ x → (y : Bool) → eqb v (P q).first ≡ y → (z : Bool) → done q ≡ z → (u : Bool) → (P q).live ≡ u → Partner s c₀ q
        go x xe y ye z ze false ue = absurd (true≢false (sym mid_alive ∙ mid_dead m b v g P Q S done q ue))
        go true xe y ye z ze true ue =
            let fb : (P q).first ≡ b = sym (eqb-true b (P q).first xe) in
            let mb : mid m b v P Q done q ≡ absorb (find (map (only P done) (upto m 0)) v (P q).second) (P q) = mid_base m b v g P Q S done q fb in
            let sc : (P q).second ≡ c₀ = sym (absorb_second m b v g P Q S _ (P q)) ∙ sym (ap (λ (x : Edge). x.second) mb) ∙ second_c in
            let no : find (map (only P done) (upto m 0)) v (P q).second ≡ none = ap (find (map (only P done) (upto m 0)) v) sc ∙ none_yet m b v g P Q S done f lt l e todo in
            record { q_live = ue; q_first = fb; q_second = sc; q_now = is ∙ mb ∙ absorb_none m b v g P Q S _ (P q) no }
        go false xe true ye true ze true ue =
            let fv : (P q).first ≡ v = sym (eqb-true v (P q).first ye) in
            let mv : mid m b v P Q done q ≡ hand b (find (map P (upto m 0)) b (P q).second) (P q) = mid_moved m b v g P Q S done q true fv ze in
            let hs : (hand b (find (map P (upto m 0)) b (P q).second) (P q)).second ≡ (P q).second = unfold hand in refl in
            let sc : (P q).second ≡ c₀ = sym hs ∙ sym (ap (λ (x : Edge). x.second) mv) ∙ second_c in
            absurd (true≢false (sym ze ∙ ap done (alone m b v g P Q S v c₀ q f hq lt (record { live = ue; first = fv; second = sc }) me) ∙ todo))
        go false xe true ye false ze true ue =
            let fv : (P q).first ≡ v = sym (eqb-true v (P q).first ye) in
            let mv : mid m b v P Q done q ≡ Q q = mid_moved m b v g P Q S done q false fv ze in
            ⊎_elim
            (λ w. absurd (S.apart (sym first_b ∙ ap (λ (x : Edge). x.first) mv ∙ w.0)))
            (λ w. absurd ((S.turned f lt l).1 (sym second_c ∙ ap (λ (x : Edge). x.second) mv ∙ w.1)))
            (before m b v g P Q S q hq ue fv).ends
        go false xe false ye z ze true ue =
            let fne : (P q).first ≡ b → ⊥ = λ w. eqb-false b (P q).first xe (sym w) in
            let mo : mid m b v P Q done q ≡ P q = mid_else m b v g P Q S done q fne (λ w. eqb-false v (P q).first ye (sym w)) in
            absurd (fne (sym (ap (λ (x : Edge). x.first) mo) ∙ first_b))

    -- edges other than f and its partner
    mid_kept : (j : ℕ) → j < m → (j ≡ f → ⊥) → ((P j).live ≡ true → (P j).first ≡ b → (P j).second ≡ c₀ → ⊥) → Like (edge_now s j) (mid m b v P Q (also done f) j)
    mid_kept j hj nf nb = go (P j).live refl (eqb b (P j).first) refl (eqb v (P j).first) refl
      where
        go : (u : Bool) → (P j).live ≡ u → (x : Bool) → eqb b (P j).first ≡ x → (y : Bool) → eqb v (P j).first ≡ y → Like (edge_now s j) (mid m b v P Q (also done f) j)
        go false ue x xe y ye = like_dead _ _ ((I.like j hj).live ∙ mid_dead m b v g P Q S done j ue) (mid_dead m b v g P Q S (also done f) j ue)
        go true ue true xe y ye =
            let fb : (P j).first ≡ b = sym (eqb-true b (P j).first xe) in
            like_then _ _ _ (I.like j hj) (mid_base m b v g P Q S done j fb ∙ sym (mid_base m b v g P Q S (also done f) j fb ∙ ap (λ (o : Option Link). absorb o (P j)) (found_else m b v g P Q S done f (P j).second (λ w. nb ue fb (sym w)))))
        go true ue false xe true ye =
            let fv : (P j).first ≡ v = sym (eqb-true v (P j).first ye) in
            like_then _ _ _ (I.like j hj) (mid_moved m b v g P Q S done j (done j) fv refl ∙ sym (mid_moved m b v g P Q S (also done f) j (done j) fv (also_else done f j nf)))
        go true ue false xe false ye =
            let fb : (P j).first ≡ b → ⊥ = λ w. eqb-false b (P j).first xe (sym w) in
            let fv : (P j).first ≡ v → ⊥ = λ w. eqb-false v (P j).first ye (sym w) in
            like_then _ _ _ (I.like j hj) (mid_else m b v g P Q S done j fb fv ∙ sym (mid_else m b v g P Q S (also done f) j fb fv))

    -- the base has edge q to c₀, stored as it stands
    module _ (q : ℕ) (hq : q < m) (pq : Partner s c₀ q) (straight : turned s q ≡ false) where
      qf : q ≡ f → ⊥
      qf w = S.apart (sym pq.q_first ∙ ap (λ (i : ℕ). (P i).first) w ∙ e)

      taken : find (map P (upto m 0)) b c₀ ≡ some (P q).link
      taken = find_one P b c₀ 0 m q (omega arith) (omega arith) (hit b c₀ (P q) pq.q_live pq.q_first pq.q_second)
          (λ j a c h. alone m b v g P Q S b c₀ j q (omega arith) hq (hit_is b c₀ (P j) h) (record { live = pq.q_live; first = pq.q_first; second = pq.q_second }))

      abbrev s' : Tables
      s' = absorb_at s q f (P f).link.diff

      grown : edge_now s' q ≡ mid m b v P Q (also done f) q
      unfolding absorb
      grown =
          let w : Words s q (P q) = words s q (P q) (sym (now_straight s q straight) ∙ pq.q_now) pq.q_live in
          let sum_live : not (eqb (get_or (s.at weight) q 0 + get_or (s.at weight) f 0) 0) ≡ true = rw (ne_eqb (get_or (s.at weight) q 0 + get_or (s.at weight) f 0) 0 (λ z. w.some (omega arith))) refl in
          now_straight s' q (absorb_turned s q f (P f).link.diff q ∙ straight)
          ∙ absorb_grown m n s sound q f (P f).link.diff hq lt qf
          ∙ (λ i. record {
            num = sym (S.number q) i;
            live = (sum_live ∙ sym pq.q_live) i;
            first = w.first_is_lem i;
            second = w.second_is_lem i;
            link = record {
              weight = (ap (λ (x : ℕ). x + get_or (s.at weight) f 0) w.weight_is ∙ ap (λ (x : ℕ). (P q).link.weight + x) weighs) i;
              diff = ap (λ (x : Float). add binary32 x (P f).link.diff) w.diff_is i;
              bridged = (ap (λ (x : ℕ). x + get_or (s.at bridged) f 0) w.bridged_is ∙ ap (λ (x : ℕ). (P q).link.bridged + x) spans) i;
            };
          })
          ∙ sym (mid_base m b v g P Q S (also done f) q pq.q_first ∙ ap (λ (o : Option Link). absorb o (P q)) (ap (find (map (only P (also done f)) (upto m 0)) v) pq.q_second ∙ found_now m b v g P Q S (also done f) f lt l e (also_new done f)))

      gone : (mid m b v P Q (also done f) f).live ≡ false
      unfolding hand absent
      gone = ap (λ (x : Edge). x.live) (mid_moved m b v g P Q S (also done f) f true e (also_new done f)) ∙ (rw taken (and-false (P f).live))
        where
          and-false : (x : Bool) → (x && false) ≡ false
          and-false true = refl
          and-false false = refl

      absorbed : Middle m b v P Q N L T (also done f) s'
      absorbed = record {
        like = λ j hj. ⊎_elim
            (λ w. subst (λ (i : ℕ). Like (edge_now s' i) (mid m b v P Q (also done f) i)) (sym w) (like_dead _ _ (now_live s' f ∙ absorb_gone m n s sound q f (P f).link.diff hq lt qf) gone))
            (λ nf. ⊎_elim
            (λ w. subst (λ (i : ℕ). Like (edge_now s' i) (mid m b v P Q (also done f) i)) (sym w) (like_of _ _ grown))
            (λ nq. like_at _ _ _ (now_by s j s' (absorb_turned s q f (P f).link.diff j) (absorb_kept m n s sound q f (P f).link.diff hq lt qf j nq nf))
            (mid_kept j hj nf (λ a c d. nq (alone m b v g P Q S b c₀ j q hj hq (record { live = a; first = c; second = d }) (record { live = pq.q_live; first = pq.q_first; second = pq.q_second })))))
            (eq_or_ne j q))
            (eq_or_ne j f);
        links = (frame_absorb s q f (P f).link.diff).at enext ∙ I.links;
        lens = (frame_absorb s q f (P f).link.diff).at elen ∙ I.lens;
        stamps = (frame_absorb s q f (P f).link.diff).at stamp ∙ I.stamps;
      }

    -- the base has none
    module _ (far : mate m b s c₀ ≡ None) where
      nobody : (j : ℕ) → j < m → Hit b c₀ (P j) → ⊥
      nobody j hj h =
          let mb : mid m b v P Q done j ≡ absorb (find (map (only P done) (upto m 0)) v (P j).second) (P j) = mid_base m b v g P Q S done j h.first in
          let ml : (mid m b v P Q done j).live ≡ true = ap (λ (x : Edge). x.live) mb ∙ absorb_live m b v g P Q S _ (P j) ∙ h.live in
          let w : Stands s j (mid m b v P Q done j) = stands s j (mid m b v P Q done j) ((I.like j hj).whole ml) ml in
          let fb : (mid m b v P Q done j).first ≡ b = ap (λ (x : Edge). x.first) mb ∙ absorb_first m b v g P Q S _ (P j) ∙ h.first in
          let sc : (mid m b v P Q done j).second ≡ c₀ = ap (λ (x : Edge). x.second) mb ∙ absorb_second m b v g P Q S _ (P j) ∙ h.second in
          let t : Mate m b s c₀ j = record { q_in = hj; live = w.some; ends = ⊎_elim (λ p. inl (p.0 ∙ fb, p.1 ∙ sc)) (λ p. inr (p.0 ∙ sc, p.1 ∙ fb)) w.ends } in
          mate_finds m b c₀ s j t (λ r. (S.turned f lt l).0 (sym r)) (reached j b hj h.live (inl h.first)) (reached j c₀ hj h.live (inr h.second)) far
        where
          reached : (j x : ℕ) → j < m → (P j).live ≡ true → ((P j).first ≡ x) ⊎ ((P j).second ≡ x) → (i : ℕ) × (i < get_or (s.at elen) x 0 - 1) × (cur (s.at enext) (get_or (s.at enext) (2 * m + x) 0) i / 2 ≡ j)
          reached j x hj k d =
              subst (λ (t : List ℕ). (i : ℕ) × (i < get_or (s.at elen) x 0 - 1) × (cur t (get_or t (2 * m + x) 0) i / 2 ≡ j)) (sym I.links)
              (subst (λ (t : List ℕ). (i : ℕ) × (i < get_or t x 0 - 1) × (cur N (get_or N (2 * m + x) 0) i / 2 ≡ j)) (sym I.lens) (G.reach j x hj k d))

      free : find (map P (upto m 0)) b c₀ ≡ none
      free = find_no P b c₀ 0 m (λ j a c h. nobody j (omega arith) (hit_is b c₀ (P j) h))

      abbrev s'' : Tables
      s'' = attach_at b s f c₀ (P f).link.diff

      handed : edge_now s'' f ≡ mid m b v P Q (also done f) f
      unfolding hand absent
      handed =
          let fl : (edge_of s f).live ≡ true = sym (now_live s f) ∙ ap (λ (x : Edge). x.live) now ∙ S.alike f ∙ l in
          let pl : ((P f).live && true) ≡ true = rw l refl in
          now_straight s'' f (attach_straight m n b s sound f c₀ (P f).link.diff lt older)
          ∙ attach_new m n s sound b f c₀ (P f).link.diff lt
          ∙ (λ i. record { num = sym (S.number f) i; live = (fl ∙ sym pl) i; first = b; second = c₀; link = record { weight = weighs i; diff = (P f).link.diff; bridged = spans i } })
          ∙ sym (mid_moved m b v g P Q S (also done f) f true e (also_new done f) ∙ (rw free refl))

      attached : Middle m b v P Q N L T (also done f) s''
      attached = record {
        like = λ j hj. ⊎_elim
            (λ w. subst (λ (i : ℕ). Like (edge_now s'' i) (mid m b v P Q (also done f) i)) (sym w) (like_of _ _ handed))
            (λ nf. like_at _ _ _ (now_by s j s'' (attach_turned m n b s sound f c₀ (P f).link.diff lt j nf) (attach_kept m n s sound b f c₀ (P f).link.diff lt j nf))
            (mid_kept j hj nf (λ a c d. nobody j hj (record { live = a; first = c; second = d }))))
            (eq_or_ne j f);
        links = (frame_attach b s f c₀ (P f).link.diff).at enext ∙ I.links;
        lens = (frame_attach b s f c₀ (P f).link.diff).at elen ∙ I.lens;
        stamps = (frame_attach b s f c₀ (P f).link.diff).at stamp ∙ I.stamps;
      }

  -- ---- the step
  module _ (n : ℕ) (s : Tables) (sound : Sound m n s) (done : ℕ → Bool) (I : Middle m b v P Q N L T done s)
      (f : ℕ) (lt : f < m) (l : (P f).live ≡ true) (e : (P f).first ≡ v) (todo : done f ≡ false) where
    -- the mate is faced before it takes the edge up
    faced : (q : ℕ) → Mate m b s (P f).second q → Middle m b v P Q N L T (also done f) (absorb_at (face_at s q) q f (P f).link.diff)
    faced q t =
        let hq : q < m = t.q_in in
        let p : Partner s (P f).second q = partner n s sound done I f lt l e todo q t in
        absorbed n (face_at s q) (sound_face m n s q sound hq) done (middle_face n s done q sound hq I) f lt l e todo q hq
        (record { q_live = p.q_live; q_first = p.q_first; q_second = p.q_second; q_now = face_now m n s sound q hq q ∙ p.q_now }) (face_straight m n s sound q hq)

    moved_step : turned s f ≡ false → Middle m b v P Q N L T (also done f) (moved_edge m b v g s f)
    unfolding join_edge
    moved_step straight = subst (Middle m b v P Q N L T (also done f)) (sym (moved_is m b v g P Q S s f lt (sym (now_straight s f straight) ∙ now n s sound done I f lt l e todo) l e)) (go (mate m b s (P f).second) refl)
      where
        go : (o : Prelude.Option ℕ) → mate m b s (P f).second ≡ o → Middle m b v P Q N L T (also done f) (elim o [ Some q ↦ absorb_at (face_at s q) q f (P f).link.diff | None ↦ attach_at b s f (P f).second (P f).link.diff ])
        go (Some q) r = faced q (mate_is m b (P f).second s q r)
        go None r = attached n s sound done I f lt l e todo r

  -- ---- any slot of the chain
  pub record Next (n : ℕ) (s : Tables) (done : ℕ → Bool) (f : ℕ) : Type 0 where
    pub done' : ℕ → Bool
    pub middle : Middle m b v P Q N L T done' s
    pub more : (j : ℕ) → done j ≡ true → done' j ≡ true
    pub here : (P f).live ≡ true → (P f).first ≡ v → done' f ≡ true

  straight_step : (n : ℕ) (s : Tables) → Sound m n s → (done : ℕ → Bool) → Middle m b v P Q N L T done s → (f : ℕ) → f < m → turned s f ≡ false → Next n (moved_edge m b v g s f) done f
  straight_step n s sound done I f lt straight = go (P f).live refl (eqb b (P f).first) refl (eqb v (P f).first) refl (done f) refl
    where
      still : ((P f).live ≡ true → (P f).first ≡ v → done f ≡ true) → moved_edge m b v g s f ≡ s → Next n (moved_edge m b v g s f) done f
      still h e = record { done' = done; middle = subst (Middle m b v P Q N L T done) (sym e) I; more = λ j r. r; here = h }

      dead : (edge_now s f).live ≡ false → moved_edge m b v g s f ≡ s
      dead h = moved_none m b v g s f (dead_word s f (sym (now_live s f) ∙ h))

      far : (x : Edge) → edge_now s f ≡ x → x.live ≡ true → (x.first ≡ v → ⊥) → (x.second ≡ v → ⊥) → moved_edge m b v g s f ≡ s
      far x e l p q = let w : Stands s f x = stands s f x e l in
          ⊎_elim (λ u. moved_else m b v g s f w.some (λ r. p (sym u.0 ∙ r)) (λ r. q (sym u.1 ∙ r))) (λ u. moved_else m b v g s f w.some (λ r. q (sym u.0 ∙ r)) (λ r. p (sym u.1 ∙ r))) w.ends

      go : (u : Bool) → (P f).live ≡ u → (x : Bool) → eqb b (P f).first ≡ x → (y : Bool) → eqb v (P f).first ≡ y → (z : Bool) → done f ≡ z → Next n (moved_edge m b v g s f) done f
      go false ue x xe y ye z ze = still (λ l. absurd (true≢false (sym l ∙ ue))) (dead ((I.like f lt).live ∙ mid_dead m b v g P Q S done f ue))
      go true ue true xe y ye z ze =
          let fb : (P f).first ≡ b = sym (eqb-true b (P f).first xe) in
          let mb : mid m b v P Q done f ≡ absorb (find (map (only P done) (upto m 0)) v (P f).second) (P f) = mid_base m b v g P Q S done f fb in
          let ml : (mid m b v P Q done f).live ≡ true = ap (λ (x : Edge). x.live) mb ∙ absorb_live m b v g P Q S _ (P f) ∙ ue in
          still (λ l w. absurd (S.apart (sym fb ∙ w)))
          (far (mid m b v P Q done f) ((I.like f lt).whole ml) ml
          (λ r. S.apart (sym (ap (λ (x : Edge). x.first) mb ∙ absorb_first m b v g P Q S _ (P f) ∙ fb) ∙ r))
          (λ r. (S.turned f lt ue).1 (sym (ap (λ (x : Edge). x.second) mb ∙ absorb_second m b v g P Q S _ (P f)) ∙ r)))
      go true ue false xe false ye z ze =
          let fb : (P f).first ≡ b → ⊥ = λ w. eqb-false b (P f).first xe (sym w) in
          let fv : (P f).first ≡ v → ⊥ = λ w. eqb-false v (P f).first ye (sym w) in
          let mo : mid m b v P Q done f ≡ P f = mid_else m b v g P Q S done f fb fv in
          let ml : (mid m b v P Q done f).live ≡ true = ap (λ (x : Edge). x.live) mo ∙ ue in
          still (λ l w. absurd (fv w)) (far (P f) ((I.like f lt).whole ml ∙ mo) ue fv (S.turned f lt ue).1)
      go true ue false xe true ye true ze =
          let fv : (P f).first ≡ v = sym (eqb-true v (P f).first ye) in
          let mv : mid m b v P Q done f ≡ hand b (find (map P (upto m 0)) b (P f).second) (P f) = mid_moved m b v g P Q S done f true fv ze in
          let hs : (hand b (find (map P (upto m 0)) b (P f).second) (P f)).second ≡ (P f).second = unfold hand in refl in
          let hf : (hand b (find (map P (upto m 0)) b (P f).second) (P f)).first ≡ b = unfold hand in refl in
          still (λ l w. ze) (done_edge (mid m b v P Q done f).live refl
          (λ r. S.apart (sym (ap (λ (x : Edge). x.first) mv ∙ hf) ∙ r)) (λ r. (S.turned f lt ue).1 (sym (ap (λ (x : Edge). x.second) mv ∙ hs) ∙ r)))
        where
          done_edge : (t : Bool) → (mid m b v P Q done f).live ≡ t → ((mid m b v P Q done f).first ≡ v → ⊥) → ((mid m b v P Q done f).second ≡ v → ⊥) → moved_edge m b v g s f ≡ s
          done_edge true t p q = far (mid m b v P Q done f) ((I.like f lt).whole t) t p q
          done_edge false t p q = dead ((I.like f lt).live ∙ t)
      go true ue false xe true ye false ze =
          let fv : (P f).first ≡ v = sym (eqb-true v (P f).first ye) in
          record { done' = also done f; middle = moved_step n s sound done I f lt ue fv ze straight; more = λ j r. also_old done f j r; here = λ l r. also_new done f }

  pub any_step : (n : ℕ) (s : Tables) → Sound m n s → (done : ℕ → Bool) → Middle m b v P Q N L T done s → (f : ℕ) → f < m → Next n (take_edge m b v g s f) done f
  unfolding take_edge
  any_step n s sound done I f lt = rw (lt-ltb f m lt) (straight_step n (face_at s f) (sound_face m n s f sound lt) done (middle_face n s done f sound lt I) f lt (face_straight m n s sound f lt))
