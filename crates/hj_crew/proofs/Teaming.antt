-- Teams that come back, one after another.
use Rattle.std.proofs.Common.{◌≡◌, ℕ, ◌+◌, ◌<◌, ◌≤◌, List, [], ◌∷◌, ◌++◌, length, Option, Some, None, refl, ap, sym, ◌∙◌, subst, arith, append-nil, append_assoc, length-append}
use Rattle.std.specs.Prelude.{MatchOption, IfNone, vec_capacity, vec_len}
use Rattle.std.specs.List.{AllZip}
use Rattle.std.proofs.lemmas.List.{nil_from_length, same_from_push}
use Rattle.std.proofs.lemmas.Slice.Zip.{AllZip-long, all_zipped_more}
use Rattle.std.specs.declared.vec.Vec.{Vec}
use Rattle.hj_crew.specs.declared.team.Team.{Team}
use Rattle.hj_crew.specs.Room.{HasRoom}
use Rattle.hj_crew.specs.Teams.{AppendsTeams, TeamStays}
use Rattle.hj_crew.proofs.Dealing.{EndsRelated, ends_related}
use Rattle.hj_crew.proofs.Staying.{team-stays-on}

module _ {P J S : Type 0} where
  pub length-appended : (teams old new : List (Team P J S)) → AppendsTeams teams old new → length new ≡ length old + length teams
  length-appended teams old new more = omega (arith, ap length more.behind, length-append old more.back, AllZip-long TeamStays teams more.back more.same)

  -- no team came back where none was left
  pub appends-none : (teams old : List (Team P J S)) → length teams ≡ 0 → AppendsTeams teams old old
  appends-none [] old none = record { back = []; same = tt; behind = sym (append-nil old) }
  appends-none (team ∷ teams) old none = absurd (omega (arith, none))

  -- ---- teams of which the last one comes off

  module _ {Z : Type 0} where
    pub none-left : (teams : Vec (Team P J S) Z) → vec_len teams ≡ 0 → teams.items ≡ []
    none-left teams none = nil_from_length teams.items (omega (arith, none, teams.ok.0))

    pub appends-none_of : (teams : Vec (Team P J S) Z) (old : List (Team P J S)) → vec_len teams ≡ 0 → AppendsTeams teams.items old old
    appends-none_of teams old none = appends-none teams.items old (omega (arith, none, teams.ok.0))

    module _ (teams fewer : Vec (Team P J S) Z) (less : vec_len fewer + 1 ≡ vec_len teams) where
      pub fewer-fit : (most : ℕ) → length teams.items ≤ most → length fewer.items ≤ most
      fewer-fit most fit = omega (arith, less, fit, teams.ok.0, fewer.ok.0)

      pub fewer-come_back : (done : Vec (Team P J S) Z) → HasRoom (length teams.items) done → HasRoom (length fewer.items) done
      fewer-come_back done room = omega (arith, less, room, teams.ok.0, fewer.ok.0)

      -- the one may have gone among the calling thread's own
      pub fewer-are_own : (own with : Vec (Team P J S) Z) → HasRoom (length teams.items) own → vec_capacity with ≡ vec_capacity own → length with.items ≤ length own.items + 1 → HasRoom (length fewer.items) with
      fewer-are_own own with room capacity longer = omega (arith, less, room, capacity, longer, teams.ok.0, fewer.ok.0, own.ok.0, with.ok.0)

      -- behind the others that came back there is room for it
      pub room-behind : (old new : Vec (Team P J S) Z) → AppendsTeams fewer.items old.items new.items → vec_capacity new ≡ vec_capacity old → HasRoom (length teams.items) old → vec_len new < vec_capacity new
      room-behind old new more capacity room = omega (arith, length-appended fewer.items old.items new.items more, capacity, room, less, teams.ok.0, fewer.ok.0, old.ok.0, new.ok.0)

  pub same-capacity : {Z : Type 0} (old middle new : Vec (Team P J S) Z) → vec_capacity middle ≡ vec_capacity old → vec_capacity new ≡ vec_capacity middle → vec_capacity new ≡ vec_capacity old
  same-capacity old middle new first second = second ∙ first

  -- one team more came back
  pub appends-with : (teams fewer old middle new : List (Team P J S)) (team back : Team P J S) → teams ≡ fewer ++ team ∷ [] → AppendsTeams fewer old middle → TeamStays team back → new ≡ middle ++ back ∷ []
      → AppendsTeams teams old new
  appends-with teams fewer old middle new team back are more stays pushed = record {
    back = more.back ++ back ∷ [];
    same = subst (λ (l : List (Team P J S)). AllZip TeamStays l (more.back ++ back ∷ [])) (sym are) (all_zipped_more TeamStays fewer more.back team back more.same stays);
    behind = pushed ∙ ap (λ (l : List (Team P J S)). l ++ back ∷ []) more.behind ∙ append_assoc old more.back (back ∷ []);
  }

  -- A team was put behind others, all stayed, and one comes off: it is that one.
  module _ (own with more left : List (Team P J S)) (team back : Team P J S) (pushed : with ≡ own ++ team ∷ []) (same : AllZip TeamStays with more) (popped : more ≡ left ++ back ∷ []) where
    ends : EndsRelated TeamStays own team more
    ends = ends_related TeamStays own team more (subst (λ (l : List (Team P J S)). AllZip TeamStays l more) pushed same)

    halves : (left ≡ ends.front) × (back ≡ ends.last)
    halves = same_from_push left ends.front back ends.last (sym popped ∙ ends.is)

    pub others_stay : AllZip TeamStays own left
    others_stay = subst (λ (l : List (Team P J S)). AllZip TeamStays own l) (sym halves.0) ends.fronts

    pub last_stays : TeamStays team back
    last_stays = subst (TeamStays team) (sym halves.1) ends.lasts

  -- one team came back
  pub appends-one : (team back : Team P J S) (old new : List (Team P J S)) → TeamStays team back → new ≡ old ++ back ∷ [] → AppendsTeams (team ∷ []) old new
  appends-one team back old new stays pushed = record { back = back ∷ []; same = (stays, tt); behind = pushed }

  only-one : (team : Team P J S) (back : List (Team P J S)) → AllZip TeamStays (team ∷ []) back → (b : Team P J S) × (back ≡ b ∷ []) × TeamStays team b
  only-one team [] same = absurd same
  only-one team (b ∷ []) same = (b, refl, same.0)
  only-one team (b ∷ other ∷ others) same = absurd same.1

  -- A team was given to a thread, or put among those of the calling thread; all of these stayed, and it was taken back.
  abbrev IsGiven : {H : Type 0} → Option H → (H → Team P J S) → Team P J S → List (Team P J S) → List (Team P J S) → Type 0
  IsGiven child given team own with = MatchOption child (AppendsTeams (team ∷ []) own with) (λ h. (given h ≡ team) × (with ≡ own))

  abbrev IsBack : {H : Type 0} → Option H → (H → Team P J S) → List (Team P J S) → List (Team P J S) → Team P J S → Type 0
  IsBack child given more left back = MatchOption child (more ≡ left ++ back ∷ []) (λ h. TeamStays (given h) back × (left ≡ more))

  -- there is one to take back
  pub some-own : {H : Type 0} (child : Option H) (given : H → Team P J S) (team : Team P J S) (own with more : List (Team P J S)) → IsGiven child given team own with → AllZip TeamStays with more → IfNone child (0 < length more)
  some-own (Some h) given team own with more put same = tt
  some-own None given team own with more put same = omega (arith, length-appended (team ∷ []) own with put, AllZip-long TeamStays with more same)

  pub as-long : {H : Type 0} (child : Option H) (given : H → Team P J S) (team : Team P J S) (own with : List (Team P J S)) → IsGiven child given team own with → length with ≤ length own + 1
  as-long (Some h) given team own with put = omega (arith, ap length put.1)
  as-long None given team own with put = omega (arith, length-appended (team ∷ []) own with put)

  pub comes-back : {H : Type 0} (child : Option H) (given : H → Team P J S) (team : Team P J S) (own with more left : List (Team P J S)) (back : Team P J S) → IsGiven child given team own with → AllZip TeamStays with more
      → IsBack child given more left back → TeamStays team back × AllZip TeamStays own left
  comes-back (Some h) given team own with more left back put same taken = (
    subst (λ (t : Team P J S). TeamStays t back) put.0 taken.0,
    subst (λ (l : List (Team P J S)). AllZip TeamStays own l) (sym taken.1) (subst (λ (l : List (Team P J S)). AllZip TeamStays l more) put.1 same),
  )
  comes-back None given team own with more left back put same taken =
      let one = only-one team put.back put.same in
      let pushed : with ≡ own ++ one.0 ∷ [] = put.behind ∙ ap (λ (l : List (Team P J S)). own ++ l) one.1 in (
        team-stays-on team one.0 back one.2 (last_stays own with more left one.0 back pushed same taken),
        others_stay own with more left one.0 back pushed same taken,
      )

  -- where none was there before, those that came back are all
  pub all-back : (teams old new : List (Team P J S)) → old ≡ [] → AppendsTeams teams old new → AllZip TeamStays teams new
  all-back teams old new none more = subst (AllZip TeamStays teams) (sym (more.behind ∙ ap (λ (l : List (Team P J S)). l ++ more.back) none)) more.same
