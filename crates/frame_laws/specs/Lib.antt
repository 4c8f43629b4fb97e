pub mod SiteLaws
pub mod EdgeLaws
pub mod MeetingLaws
