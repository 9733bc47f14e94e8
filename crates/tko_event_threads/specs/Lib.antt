pub mod Accounting
pub mod Ends
pub mod Hosts
pub mod Origins
pub mod Turns
pub mod Worked
