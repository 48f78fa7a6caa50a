-- A feed of one right row, after which the right side is silent: two left rows come before each quiet event.
use Rattle.std.specs.Prelude.{ℕ, zero, suc, ◌-◌, Bool, nat_lt, [], ◌∷◌, filter}
use Rattle.hj_base.specs.declared.numbers.Side.TheVariants.{Left, Right}
use Rattle.hj_msg.specs.declared.event.Event.{Event}
use Rattle.hj_msg.specs.declared.event.Event.TheVariants.{Arrive, Quiet}
use Rattle.hj_msg.specs.Feed.{FeedState}

-- the event of a number, with this row where one arrives
abbrev pub event_of : {P : Type 0} → P → ℕ → Event P
event_of row zero = Arrive (record { 0 = 0 }) Right row
event_of row (suc (suc (suc zero))) = Quiet (record { 0 = 3 }) Right
event_of row (suc (suc (suc (suc (suc (suc zero)))))) = Quiet (record { 0 = 6 }) Right
event_of row number = Arrive (record { 0 = number }) Left row

-- what stands of the feed when so many of its seven events were given
abbrev pub silence_given : ℕ → Bool → FeedState
silence_given given stopped = record {
  numbering = record { next = given; live_left = filter (λ number. nat_lt number given) (1 ∷ 2 ∷ 4 ∷ 5 ∷ []); live_right = filter (λ number. nat_lt number given) (0 ∷ []) };
  remaining = 7 - given;
  stopped = stopped;
}
