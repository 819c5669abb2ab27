pub mod Said
pub mod Lettered
pub mod Sixteen
pub mod NetworkReturn
