-- The bench cases hold of the definitions: each is computed. Assumes nothing.
use mathlib.Core.Path.{◌≡◌, refl}
use mathlib.Core.List.{flatten}
use lib.ListN.{length}
use lib.Count.{ones_in}
use Rattle.numbers.specs.Numbers.{big_endian, big_endians, number, number_at, numbers_at}
use Rattle.numbers.specs.Buffer.{over}
use Rattle.frame.specs.Message.{mask_of, present, by_panel}
use Rattle.frame.specs.Frame.{fields, frame}
use Rattle.frame.specs.Refusal.{first_of}
use Rattle.frame.specs.Reading.{each_earlier, checks, message_in}
use Rattle.frame.specs.Readable.{each_below, readable}
use Rattle.rules.specs.Panel.{old_make, new_make, none64, fresh, has_lapsed, lapsed, met, each_panel, ready}
use Rattle.rules.specs.Handing.{raise, shortened, barrier_for, largest, missed, hand, log_record, log_records}
use Rattle.rules.specs.Settling.{sooner, chosen, choice, without, go_on, settle_in, settle}
use Rattle.rules.specs.Calls.{hand_and_settle, send_deadline, new_message, sending, receiving, alive, clocking, setting_back}
use Rattle.rules.specs.Refusals.{each_readable, broken, is_waiting, too_far_ahead, send_checks, message_checks, receive_checks, clock_checks, set_back_checks}
use Rattle.rules.specs.Results.{refused, done, unless, defined}
use Rattle.rules.specs.Cases.{Holds, finished, ◌and◌, EachHolds}
use Rattle.rules.specs.FarAheadCases.{far_frame1, far_frame2, case_far_ahead, case_far_ahead_stays, case_last_days}
use Rattle.rules.specs.BarrierCases.{frame_c, frame_d, case_yard, case_yard_mixed, case_removed, case_own}
use Rattle.rules.specs.FloorCases.{case_wrong_year, case_floor, case_floor_unreached}
use Rattle.rules.specs.VersionCases.{narrow2, case_versions, case_short, case_past32}
use Rattle.rules.specs.BenchCases.{frame1, case1, frame2, case2, case3, case4, case5, case6, case7, case8, queue, case9, case10, case11, case_beacon, case_order, case_unreached, bench_cases}

-- whoever unfolds these unfolds all definitions: of frames, of a panel's rules, of the calls, and the cases
unfoldable pub frames_opened : Unit {0}
unfolding flatten ones_in big_endian big_endians number number_at numbers_at over mask_of present by_panel fields frame first_of each_earlier checks message_in each_below readable
frames_opened = tt

unfoldable pub rules_opened : Unit {0}
unfolding none64 has_lapsed lapsed met each_panel ready raise shortened barrier_for largest missed hand log_record log_records sooner chosen choice without go_on settle_in settle
rules_opened = tt

unfoldable pub calls_opened : Unit {0}
unfolding frames_opened rules_opened hand_and_settle send_deadline new_message sending receiving alive clocking setting_back each_readable broken is_waiting too_far_ahead send_checks message_checks receive_checks clock_checks set_back_checks refused done unless defined
calls_opened = tt

cases_opened : Unit {0}
unfolding calls_opened frame1 frame2 far_frame1 far_frame2 queue case1 case2 case3 case4 case5 case6 case7 case8 case9 case10 case11 case_beacon case_order case_unreached case_far_ahead case_far_ahead_stays case_last_days fresh case_yard case_yard_mixed case_removed case_own case_wrong_year case_floor case_floor_unreached narrow2 case_versions case_short case_past32
cases_opened = tt

-- Of every step of every case, the result that the case names is the one that documents 01 and 02 define. A declaration for each case, as the
-- prover keeps all that it computed until a declaration ends; and each rests on the one before, as nothing is computed for a declaration that rests
-- on a refused one. So the cases take half the time, and an edit that breaks many of them no longer than one that breaks the last.
after : {Before This : Type 0} → Before → This → This
after before this = this

case_1 : Holds case1
unfolding cases_opened
case_1 = refl

case_2 : Holds case2
unfolding cases_opened
case_2 = after case_1 refl

case_3 : Holds case3
unfolding cases_opened
case_3 = after case_2 refl

case_4 : Holds case4
unfolding cases_opened
case_4 = after case_3 refl

case_5 : Holds case5
unfolding cases_opened
case_5 = after case_4 refl

case_6 : Holds case6
unfolding cases_opened
case_6 = after case_5 refl

case_7 : Holds case7
unfolding cases_opened
case_7 = after case_6 refl

case_8 : Holds case8
unfolding cases_opened
case_8 = after case_7 refl

case_9 : Holds case9
unfolding cases_opened
case_9 = after case_8 refl

case_10 : Holds case10
unfolding cases_opened
case_10 = after case_9 refl

case_11 : Holds case11
unfolding cases_opened
case_11 = after case_10 refl

case_beacon_lem : Holds case_beacon
unfolding cases_opened
case_beacon_lem = after case_11 refl

case_order_lem : Holds case_order
unfolding cases_opened
case_order_lem = after case_beacon_lem refl

case_unreached_lem : Holds case_unreached
unfolding cases_opened
case_unreached_lem = after case_order_lem refl

case_far_ahead_lem : Holds case_far_ahead
unfolding cases_opened
case_far_ahead_lem = after case_unreached_lem refl

case_far_ahead_stays_lem : Holds case_far_ahead_stays
unfolding cases_opened
case_far_ahead_stays_lem = after case_far_ahead_lem refl

case_last_days_lem : Holds case_last_days
unfolding cases_opened
case_last_days_lem = after case_far_ahead_stays_lem refl

case_yard_new : Holds (case_yard new_make)
unfolding cases_opened
case_yard_new = after case_last_days_lem refl

case_yard_old : Holds (case_yard old_make)
unfolding cases_opened
case_yard_old = after case_yard_new refl

case_yard_new_new : Holds (case_yard_mixed new_make new_make)
unfolding cases_opened
case_yard_new_new = after case_yard_old refl

case_yard_new_old : Holds (case_yard_mixed new_make old_make)
unfolding cases_opened
case_yard_new_old = after case_yard_new_new refl

case_yard_old_new : Holds (case_yard_mixed old_make new_make)
unfolding cases_opened
case_yard_old_new = after case_yard_new_old refl

case_yard_old_old : Holds (case_yard_mixed old_make old_make)
unfolding cases_opened
case_yard_old_old = after case_yard_old_new refl

case_removed_lem : Holds case_removed
unfolding cases_opened
case_removed_lem = after case_yard_old_old refl

case_own_lem : Holds case_own
unfolding cases_opened
case_own_lem = after case_removed_lem refl

case_wrong_year_lem : Holds case_wrong_year
unfolding cases_opened
case_wrong_year_lem = after case_own_lem refl

case_floor_lem : Holds case_floor
unfolding cases_opened
case_floor_lem = after case_wrong_year_lem refl

case_floor_unreached_lem : Holds case_floor_unreached
unfolding cases_opened
case_floor_unreached_lem = after case_floor_lem refl

case_versions_lem : Holds case_versions
unfolding cases_opened
case_versions_lem = after case_floor_unreached_lem refl

case_short_lem : Holds case_short
unfolding cases_opened
case_short_lem = after case_versions_lem refl

case_past_32 : Holds case_past32
unfolding cases_opened
case_past_32 = after case_short_lem refl

-- all of them in one statement
pub bench_cases_lem : EachHolds bench_cases
bench_cases_lem =
    case_1 and case_2 and case_3 and case_4 and case_5 and case_6 and case_7 and case_8 and case_9 and case_10 and case_11 and case_beacon_lem and case_order_lem and case_unreached_lem and case_far_ahead_lem and case_far_ahead_stays_lem and case_last_days_lem and case_yard_new and case_yard_old and case_yard_new_new and case_yard_new_old and case_yard_old_new and case_yard_old_old and case_removed_lem and case_own_lem and case_wrong_year_lem and case_floor_lem and case_floor_unreached_lem and case_versions_lem and case_short_lem and case_past_32 and finished

-- At the busy yard a frame of the new make has fewer bytes than one of the old make.
pub yard_shorter : (length (frame_c new_make) ≡ 31) × (length (frame_c old_make) ≡ 39) × (length (frame_d new_make) ≡ 31) × (length (frame_d old_make) ≡ 47)
yard_shorter = (refl, refl, refl, refl)
